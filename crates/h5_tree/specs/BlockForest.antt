-- The forest of a block: a node is named by its number. A text has a number as well, but isn't a node.
use Rattle.std.specs.Prelude.{ℕ, ◌==◌, ◌&&◌, Bool, if◌then◌else◌, not, List, [], map, Option, None, Some}
use Rattle.std.specs.List.{filter, range_with_len}
use Rattle.h5_interface.specs.Forest.{Child, ChildNode, ChildText, CommentNode, DoctypeNode, DocumentNode, ElementNode, Forest, FragmentNode, InstructionNode, Kind, Node}
use Rattle.h5_interface.specs.Seen.{no_flags, no_marks}
use Rattle.h5_interface.specs.declared.marks.QuirksMode.{QuirksMode}
use Rattle.h5_tree_block.specs.Block.{contents_in, kind_in, name_in, nodes_in, nothing, parent_in, quirks_in}
use Rattle.h5_tree_block.specs.Read.{attributes_of, name_of, text_of, value_of}
use Rattle.h5_tree_block.specs.SameTree.{quirks_named}

abbrev pub mode_in : (block : List ℕ) → QuirksMode
mode_in b = quirks_named (quirks_in b)

module _ (b : List ℕ) where
  -- the kind of a node that isn't an element; nothing for a text, and if there is no such node
  abbrev pub other_kind_at : (number : ℕ) → Option Kind
  other_kind_at n =
      if kind_in b n == 9 then Some DocumentNode
      else (if kind_in b n == 11 then Some FragmentNode
      else (if kind_in b n == 8 then Some (CommentNode (value_of b n 0))
      else (if kind_in b n == 10 then Some (DoctypeNode (value_of b n 0) (value_of b n 1) (value_of b n 2))
      else (if kind_in b n == 7 then Some (InstructionNode (value_of b n 0) (value_of b n 1))
      else None))))

  abbrev pub kind_at : (number : ℕ) → Option Kind
  kind_at n = if kind_in b n == 1 then Some (ElementNode (name_of b (name_in b n))) else other_kind_at n

  -- a number, or none
  abbrev pub some_number : (number : ℕ) → Option ℕ
  some_number n = if n == nothing then None else Some n

  -- a child is a node or a text with this parent; a fragment isn't a child
  abbrev pub child_at : (number : ℕ) → Child
  child_at n = if kind_in b n == 3 then ChildText (text_of b n) else ChildNode n

  abbrev pub is_child_of : (parent number : ℕ) → Bool
  is_child_of p n = parent_in b n == p && not (kind_in b n == 11)

  -- the numbers of the children of a node, in increasing order
  abbrev pub child_numbers : (parent : ℕ) → List ℕ
  child_numbers p = filter (is_child_of p) (range_with_len 0 (nodes_in b))

  abbrev pub node_of_kind : (number : ℕ) → Kind → Node
  node_of_kind n kind = record {
    kind = kind;
    attrs = if kind_in b n == 1 then attributes_of b n else [];
    children = map child_at (child_numbers n);
    contents = some_number (contents_in b n);
    parent = some_number (parent_in b n);
    marks = no_marks no_flags;
  }

  abbrev pub node_of_some : (number : ℕ) → Option Kind → Option Node
  node_of_some n None = None
  node_of_some n (Some kind) = Some (node_of_kind n kind)

  abbrev pub node_at : (number : ℕ) → Option Node
  node_at n = node_of_some n (kind_at n)

-- number 0 is the document, or the fragment that is the root
abbrev pub forest_in : (block : List ℕ) → Forest
forest_in b = record { document = 0; bound = nodes_in b; node = node_at b }
