-- A block, and its parts: words of 32 bits, in little-endian order, followed by the bytes of texts.
use Rattle.std.specs.Prelude.{ℕ, ◌+◌, ◌-◌, ◌*◌, ◌/◌, ◌%◌, ◌==◌, ◌&&◌, Bool, if◌then◌else◌, List, [], ◌∷◌, Option, None, Some, length, min, nat_le, nat_lt, slice_index}
use Rattle.std.specs.Int.{w32, from_le_bytes}
use Rattle.h5_tree_block.specs.declared.view.Row.{Row}
use Rattle.h5_tree_block.specs.declared.view.Span.{Span}

-- the word with an index, or 0 if the block ends before it
abbrev pub word_in : (block : List ℕ) → (index : ℕ) → ℕ
word_in b index =
    if nat_le (index * 4 + 4) (length b)
    then from_le_bytes w32 (slice_index b (index * 4) ∷ slice_index b (index * 4 + 1) ∷ slice_index b (index * 4 + 2) ∷ slice_index b (index * 4 + 3) ∷ [])
    else 0

-- no node, or no name
abbrev pub nothing : ℕ
nothing = 4294967295

-- the first nine words: the letters HGT1, the block's length, its mode, the numbers of nodes, rows and names, and the numbers of bytes of
-- names, of values and of texts
abbrev pub mode_in : List ℕ → ℕ
mode_in b = word_in b 2

-- the mode has the quirks mode, and a bit for a tree that was parsed with scripting
abbrev pub quirks_of_mode : (mode : ℕ) → ℕ
quirks_of_mode mode = mode % 4

abbrev pub has_scripting : (mode : ℕ) → Bool
has_scripting mode = mode / 4 % 2 == 1

abbrev pub quirks_in : List ℕ → ℕ
quirks_in b = quirks_of_mode (mode_in b)

abbrev pub is_scripting_in : List ℕ → Bool
is_scripting_in b = has_scripting (mode_in b)

abbrev pub nodes_in : List ℕ → ℕ
nodes_in b = word_in b 3

abbrev pub rows_in : List ℕ → ℕ
rows_in b = word_in b 4

abbrev pub names_in : List ℕ → ℕ
names_in b = word_in b 5

-- the indices of the columns, for these numbers of nodes and rows: those of nodes (the columns of texts and of rows have one word more),
-- those of rows, and those of names
abbrev pub parents_at : (nodes : ℕ) → ℕ
parents_at nodes = 9 + nodes

abbrev pub ends_at : (nodes : ℕ) → ℕ
ends_at nodes = 9 + 2 * nodes

abbrev pub texts_at : (nodes : ℕ) → ℕ
texts_at nodes = 9 + 3 * nodes

abbrev pub rows_at : (nodes : ℕ) → ℕ
rows_at nodes = 10 + 4 * nodes

abbrev pub row_names_at : (nodes : ℕ) → ℕ
row_names_at nodes = 11 + 5 * nodes

abbrev pub row_ends_at : (nodes rows : ℕ) → ℕ
row_ends_at nodes rows = row_names_at nodes + rows

abbrev pub spaces_at : (nodes rows : ℕ) → ℕ
spaces_at nodes rows = row_names_at nodes + 2 * rows

-- the offsets of the bytes of names, of values and of texts
abbrev pub names_begin : List ℕ → ℕ
names_begin b = (spaces_at (nodes_in b) (rows_in b) + 2 * names_in b) * 4

abbrev pub values_begin : List ℕ → ℕ
values_begin b = names_begin b + word_in b 6

abbrev pub texts_begin : List ℕ → ℕ
texts_begin b = values_begin b + word_in b 7

-- true if bytes begin as a block, and have the length that their first words give
abbrev pub is_block : List ℕ → Bool
is_block b = word_in b 0 == 0x31544748 && (word_in b 1 == length b && texts_begin b + word_in b 8 == length b)

-- the kind of a node, or 0 if there is no such node, and the number of an element's name
abbrev pub kind_word_in : (block : List ℕ) → (node : ℕ) → ℕ
kind_word_in b n = if nat_lt n (nodes_in b) then word_in b (9 + n) else 0

abbrev pub kind_in : (block : List ℕ) → (node : ℕ) → ℕ
kind_in b n = kind_word_in b n % 256

abbrev pub name_in : (block : List ℕ) → (node : ℕ) → ℕ
name_in b n = if kind_in b n == 1 then kind_word_in b n / 256 else nothing

-- the parent of a node, which comes before it
abbrev pub before_or_nothing : (parent node : ℕ) → ℕ
before_or_nothing parent n = if nat_lt parent n then parent else nothing

abbrev pub parent_in : (block : List ℕ) → (node : ℕ) → ℕ
parent_in b n = if nat_lt n (nodes_in b) then before_or_nothing (word_in b (parents_at (nodes_in b) + n)) n else nothing

-- the first node after the subtree of a node; if the stored one is wrong, the next node
abbrev pub end_or_next : (nodes end node : ℕ) → ℕ
end_or_next nodes end n = if nat_lt n end && nat_le end nodes then end else n + 1

abbrev pub end_in : (block : List ℕ) → (node : ℕ) → ℕ
end_in b n = if nat_lt n (nodes_in b) then end_or_next (nodes_in b) (word_in b (ends_at (nodes_in b) + n)) n else nothing

-- the first child is the next node, if that comes before the node's end; the next sibling is that end, if it has the same parent
abbrev pub first_child_in : (block : List ℕ) → (node : ℕ) → ℕ
first_child_in b n = if nat_lt n (nodes_in b) && nat_lt (n + 1) (end_in b n) then n + 1 else nothing

abbrev pub next_in : (block : List ℕ) → (node : ℕ) → ℕ
next_in b n = if nat_lt (end_in b n) (nodes_in b) && parent_in b (end_in b n) == parent_in b n then end_in b n else nothing

-- the fragment that is the first child of an element
abbrev pub contents_in : (block : List ℕ) → (node : ℕ) → ℕ
contents_in b n = if kind_in b n == 1 && kind_in b (first_child_in b n) == 11 then first_child_in b n else nothing

-- the bytes between two offsets, which count from `begin`, if they are within the block
abbrev pub between : (block : List ℕ) → (begin from to : ℕ) → Option Span
between b begin from to =
    if nat_le from to && nat_le (begin + from + (to - from)) (length b) then Some (record { at = begin + from; count = to - from }) else None

-- the text of a node and of its subtree
abbrev pub text_in : (block : List ℕ) → (node : ℕ) → Option Span
text_in b n =
    if nat_lt n (nodes_in b)
    then between b (texts_begin b) (word_in b (texts_at (nodes_in b) + n)) (word_in b (texts_at (nodes_in b) + end_in b n))
    else None

-- the rows of a node
abbrev pub first_row_in : (block : List ℕ) → (node : ℕ) → ℕ
first_row_in b n = word_in b (rows_at (nodes_in b) + n)

abbrev pub row_count_in : (block : List ℕ) → (node : ℕ) → ℕ
row_count_in b n = if nat_lt n (nodes_in b) then min (first_row_in b (n + 1)) (rows_in b) - first_row_in b n else 0

-- the end of the value before, or the start of the first one
abbrev pub end_before : (block : List ℕ) → (column index : ℕ) → ℕ
end_before b column index = if index == 0 then 0 else word_in b (column + (index - 1))

abbrev pub value_in : (block : List ℕ) → (row : ℕ) → Option Span
value_in b row =
    between b (values_begin b) (end_before b (row_ends_at (nodes_in b) (rows_in b)) row) (word_in b (row_ends_at (nodes_in b) (rows_in b) + row))

abbrev pub with_name : (name : ℕ) → Option Span → Option Row
with_name name None = None
with_name name (Some value) = Some (record { name = name; value = value })

abbrev pub row_in : (block : List ℕ) → (node index : ℕ) → Option Row
row_in b n index =
    if nat_lt index (row_count_in b n)
    then with_name (word_in b (row_names_at (nodes_in b) + (first_row_in b n + index))) (value_in b (first_row_in b n + index))
    else None

-- the namespace, the prefix and the text of a name
abbrev pub space_word_in : (block : List ℕ) → (name : ℕ) → ℕ
space_word_in b name = if nat_lt name (names_in b) then word_in b (spaces_at (nodes_in b) (rows_in b) + name) else 0

abbrev pub namespace_in : (block : List ℕ) → (name : ℕ) → ℕ
namespace_in b name = space_word_in b name % 256

abbrev pub prefix_in : (block : List ℕ) → (name : ℕ) → ℕ
prefix_in b name = space_word_in b name / 256

abbrev pub name_ends_at : List ℕ → ℕ
name_ends_at b = spaces_at (nodes_in b) (rows_in b) + names_in b

abbrev pub name_text_in : (block : List ℕ) → (name : ℕ) → Option Span
name_text_in b name =
    if nat_lt name (names_in b)
    then between b (names_begin b) (end_before b (name_ends_at b) name) (word_in b (name_ends_at b + name))
    else None
