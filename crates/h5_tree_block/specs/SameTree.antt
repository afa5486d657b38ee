-- An arena has the tree of a block: each node has the data of its number, with the same nodes and texts below it.
use Rattle.std.specs.Prelude.{◌≡◌, ℕ, ◌+◌, ◌==◌, ◌&&◌, Bool, true, false, if◌then◌else◌, List, [], ◌∷◌, Option, Some, codes, length, nat_eq, nat_lt, slice_get}
use Rattle.std.specs.Option.{is_none, option_eq, option_map, option_map_or}
use Rattle.h5_names.specs.AttributeText.{AttributeText, is_same_attribute, is_same_name, is_same_text}
use Rattle.h5_names.specs.Urls.{html_text}
use Rattle.h5_names.specs.declared.qualified.QualName.{QualName}
use Rattle.h5_interface.specs.Forest.{Child, ChildNode, ChildText, CommentNode, DoctypeNode, DocumentNode, ElementNode, FragmentNode, InstructionNode, Kind, Node}
use Rattle.h5_interface.specs.declared.marks.QuirksMode.{QuirksMode}
use Rattle.h5_interface.specs.declared.marks.QuirksMode.TheVariants.{LimitedQuirks, NoQuirks, Quirks}
use Rattle.h5_arena.specs.ArenaModel.{child_parent, place}
use Rattle.h5_tree_block.specs.Block.{contents_in, first_child_in, kind_in, name_in, next_in, nodes_in, nothing, quirks_in, row_count_in}
use Rattle.h5_tree_block.specs.Read.{attribute_of, name_of, text_of, value_of}
use Rattle.h5_tree_block.specs.Sound.{all_below}
use Rattle.h5_tree_block.specs.Unpacked.{id_of}
use Rattle.h5_tree_block.specs.declared.unpack.Unpacked.{Unpacked}

-- the quirks mode with a number
abbrev pub quirks_named : ℕ → QuirksMode
quirks_named n = if n == 1 then LimitedQuirks else (if n == 2 then Quirks else NoQuirks)

-- the index of the node made for a number
abbrev pub place_of : Unpacked → (number : ℕ) → Option ℕ
place_of u n = option_map place (id_of u n)

-- true if a node is a child of the document
unfoldable pub is_below_document : Unpacked → (place : ℕ) → Bool
is_below_document u place = option_map_or (λ (d : Node). option_eq nat_eq (child_parent d) (Some 0)) (slice_get u.arena.nodes place) false

module _ (b : List ℕ) where
  -- true if an element has this number; number 0 is that of the `html` element whose content is a fragment
  unfoldable pub is_same_element : (number : ℕ) → QualName → Bool
  is_same_element n name =
      if n == 0 then kind_in b 0 == 11 && (is_same_text name.ns html_text && is_same_text name.local (codes "html"))
      else (kind_in b n == 1 && is_same_name name (name_of b (name_in b n)))

  -- true if the kind of a node is that of its number, with the same name or texts
  unfoldable pub is_same_kind : (number : ℕ) → Kind → Bool
  is_same_kind n DocumentNode = kind_in b n == 9
  is_same_kind n (DoctypeNode name public_id system_id) =
      kind_in b n == 10 && (is_same_text name (value_of b n 0) && (is_same_text public_id (value_of b n 1) && is_same_text system_id (value_of b n 2)))
  is_same_kind n (ElementNode name) = is_same_element n name
  is_same_kind n (CommentNode text) = kind_in b n == 8 && is_same_text text (value_of b n 0)
  is_same_kind n (InstructionNode target text) = kind_in b n == 7 && (is_same_text target (value_of b n 0) && is_same_text text (value_of b n 1))
  is_same_kind n FragmentNode = nat_lt 0 n && kind_in b n == 11

  -- true if attributes are the rows of a node from an index on; only elements have attributes
  abbrev pub are_same_rows : (number index : ℕ) → List AttributeText → Bool
  are_same_rows n index [] = index == row_count_in b n
  are_same_rows n index (a ∷ attrs) =
      nat_lt index (row_count_in b n) && (is_same_attribute a (attribute_of b n index) && are_same_rows n (index + 1) attrs)

  unfoldable pub are_same_attributes : (number : ℕ) → List AttributeText → Bool
  are_same_attributes n attrs = if kind_in b n == 1 then are_same_rows n 0 attrs else length attrs == 0

  -- the first child of a number, after its contents if it has any
  unfoldable pub first_behind_contents : ℕ → ℕ
  first_behind_contents n = if contents_in b n == nothing then first_child_in b n else next_in b (contents_in b n)

module _ (b : List ℕ) (u : Unpacked) where
  -- true if a child is the node made for a number, or its text
  unfoldable pub is_same_child : (number : ℕ) → Child → Bool
  is_same_child n (ChildText text) = kind_in b n == 3 && is_same_text text (text_of b n)
  is_same_child n (ChildNode child) = option_eq nat_eq (place_of u n) (Some child)

  -- true if children are those of the numbers from one on, each the next sibling of the one before
  abbrev pub are_same_children : (first : ℕ) → List Child → Bool
  are_same_children n [] = n == nothing
  are_same_children n (child ∷ children) = is_same_child n child && are_same_children (next_in b n) children

  -- true if a node with this kind, these attributes, contents and children is that of a number
  unfoldable pub is_same_node : (number : ℕ) → Kind → List AttributeText → Option ℕ → List Child → Bool
  is_same_node n kind attrs contents children =
      is_same_kind b n kind && (are_same_attributes b n attrs
      && (option_eq nat_eq (place_of u (contents_in b n)) contents && are_same_children (first_behind_contents b n) children))

  unfoldable pub is_same_in : (number place : ℕ) → Bool
  is_same_in n place = option_map_or (λ (d : Node). is_same_node n d.kind d.attrs d.contents d.children) (slice_get u.arena.nodes place) false

  -- true if the node made for a number is right; a text has no separate node
  unfoldable pub is_same_at : (number : ℕ) → Bool
  is_same_at n =
      if kind_in b n == 3 then is_none (place_of u n)
      else option_map_or (is_same_in n) (place_of u n) false

  -- true if the root of a fragment is right below the document
  unfoldable pub is_root_right : Bool
  is_root_right = if kind_in b 0 == 11 then option_map_or (is_below_document u) (place_of u 0) false else true

  -- THE TREE of the block
  pub record IsTreeOf : Type 0 where
    pub quirks : u.arena.quirks ≡ quirks_named (quirks_in b)
    pub nodes : all_below is_same_at (nodes_in b) ≡ true
    pub root : is_root_right ≡ true
