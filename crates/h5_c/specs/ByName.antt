-- Attributes and elements of a block by their names.
use Rattle.std.specs.Prelude.{ℕ, ◌+◌, ◌-◌, ◌==◌, ◌&&◌, Bool, if◌then◌else◌, List, Option, None, Some, nat_lt}
use Rattle.std.specs.Option.{option_and_then}
use Prim.Native.Nat.{zero, suc}
use Rattle.html_tree_builder.specs.AttributeText.{is_same_text}
use Rattle.h5_tree_block.specs.Block.{kind_in, name_in, namespace_in, nodes_in, nothing, row_count_in, row_in}
use Rattle.h5_tree_block.specs.Read.{local_of}
use Rattle.h5_tree_block.specs.declared.view.Row.{Row}

-- true if a row is an attribute without a namespace, with this local name
abbrev pub is_attribute : (block local : List ℕ) → Row → Bool
is_attribute b local row = namespace_in b row.name == 0 && is_same_text (local_of b row.name) local

-- the row with an index, if it is such an attribute
abbrev pub row_if_named : (block local : List ℕ) → (node index : ℕ) → Option Row
row_if_named b local n index = option_and_then (λ (row : Row). if is_attribute b local row then Some row else None) (row_in b n index)

-- the first one, if there is one, and else the other
abbrev pub first_of : Option Row → Option Row → Option Row
first_of None other = other
first_of (Some row) other = Some row

-- the first such row among those from an index on
abbrev pub attribute_from : (block local : List ℕ) → (node left index : ℕ) → Option Row
attribute_from b local n zero index = None
attribute_from b local n (suc left) index = first_of (row_if_named b local n index) (attribute_from b local n left (index + 1))

-- the first such attribute of an element
abbrev pub attribute_named : (block local : List ℕ) → (node : ℕ) → Option Row
attribute_named b local n = if kind_in b n == 1 then attribute_from b local n (row_count_in b n) 0 else None

-- true if a node is an element with this local name
abbrev pub is_element_named : (block local : List ℕ) → (node : ℕ) → Bool
is_element_named b local n = kind_in b n == 1 && is_same_text (local_of b (name_in b n)) local

-- the first such element among the nodes from one on
abbrev pub element_from : (block local : List ℕ) → (left node : ℕ) → ℕ
element_from b local zero n = nothing
element_from b local (suc left) n = if is_element_named b local n then n else element_from b local left (n + 1)

-- the first such element after a node
abbrev pub next_named : (block local : List ℕ) → (node : ℕ) → ℕ
next_named b local n = if nat_lt n (nodes_in b) then element_from b local (nodes_in b - (n + 1)) (n + 1) else nothing
