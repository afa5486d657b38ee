-- A block is sound if its nodes are a tree in tree order, with node 0 as the root, and if the columns of texts, rows and names are in order
-- as well.
use Rattle.std.specs.Prelude.{ℕ, ◌+◌, ◌-◌, ◌==◌, ◌&&◌, ◌||◌, Bool, true, if◌then◌else◌, List, nat_le, nat_lt}
use Prim.Native.Nat.{zero, suc}
use Rattle.h5_tree_block.specs.Block.{end_before, ends_at, first_row_in, kind_in, name_ends_at, name_in, names_in, nodes_in, nothing, parents_at, row_ends_at, rows_in, texts_at, word_in}

-- true if a test passes for each number below a limit
abbrev pub all_below : (test : ℕ → Bool) → (limit : ℕ) → Bool
all_below test zero = true
all_below test (suc n) = all_below test n && test n

module _ (b : List ℕ) where
  abbrev pub parent_word : ℕ → ℕ
  parent_word n = word_in b (parents_at (nodes_in b) + n)

  abbrev pub end_word : ℕ → ℕ
  end_word n = word_in b (ends_at (nodes_in b) + n)

  abbrev pub text_word : ℕ → ℕ
  text_word n = word_in b (texts_at (nodes_in b) + n)

  -- a node ends after it begins, and within its parent
  abbrev pub stands : ℕ → Bool
  stands n =
      if n == 0 then parent_word 0 == nothing && end_word 0 == nodes_in b
      else (nat_lt n (end_word n) && (nat_lt (parent_word n) n && nat_le (end_word n) (end_word (parent_word n))))

  -- tree order: the next node is its child, unless it ends there, and the first node after its end is its sibling, unless its parent ends
  -- there
  abbrev pub is_in_order : ℕ → Bool
  is_in_order n =
      (end_word n == n + 1 || parent_word (n + 1) == n)
      && (n == 0 || (end_word n == end_word (parent_word n) || parent_word (end_word n) == parent_word n))

  -- a text, a processing instruction, a comment or a doctype, which has no children
  abbrev pub is_leaf : ℕ → Bool
  is_leaf n = (kind_in b n == 3 || (kind_in b n == 7 || (kind_in b n == 8 || kind_in b n == 10))) && end_word n == n + 1

  -- its kind is allowed in its place: only node 0 is a document, and any other fragment is the contents of the element before it
  abbrev pub has_kind : ℕ → Bool
  has_kind n =
      if kind_in b n == 1 || n == 0 then true
      else (if kind_in b n == 11 then kind_in b (parent_word n) == 1 && n - 1 == parent_word n
      else is_leaf n)

  abbrev pub is_node_sound : ℕ → Bool
  is_node_sound n =
      stands n && (is_in_order n && (has_kind n && (nat_le (text_word n) (text_word (n + 1)) && (nat_le (first_row_in b n) (first_row_in b (n + 1))
      && (name_in b n == nothing || nat_lt (name_in b n) (names_in b))))))

  -- true if an end in a column isn't before the one before
  abbrev pub does_grow : (column index : ℕ) → Bool
  does_grow column index = nat_le (end_before b column index) (word_in b (column + index))

  abbrev pub has_root : Bool
  has_root = (kind_in b 0 == 9 || kind_in b 0 == 11) && (text_word 0 == 0 && first_row_in b 0 == 0)

  -- texts, rows, values and names end where their bytes and columns do
  abbrev pub do_ends_fit : Bool
  do_ends_fit =
      text_word (nodes_in b) == word_in b 8 && (first_row_in b (nodes_in b) == rows_in b
      && (end_before b (row_ends_at (nodes_in b) (rows_in b)) (rows_in b) == word_in b 7 && end_before b (name_ends_at b) (names_in b) == word_in b 6))

  abbrev pub is_sound : Bool
  is_sound =
      has_root && (do_ends_fit && (all_below is_node_sound (nodes_in b)
      && (all_below (does_grow (row_ends_at (nodes_in b) (rows_in b))) (rows_in b) && all_below (does_grow (name_ends_at b)) (names_in b))))
