-- The facts about the parts of a node are facts about the node.
use Rattle.std.proofs.Common.{◌≡◌, ◌≤◌, ℕ, Bool, List, Option, None, Some, ap, false, length, option_map, slice_get, sym}
use Rattle.std.specs.Option.{option_map_or}
use Rattle.std.proofs.lemmas.Option.{none-some, slice_get_past}
use Rattle.h5_names.specs.AttributeText.{AttributeText}
use Rattle.h5_interface.specs.Forest.{Child, Kind, Node}
use Rattle.h5_tree_block.specs.SameTree.{is_same_in, is_same_node}
use Rattle.h5_tree_block.specs.declared.unpack.Unpacked.{Unpacked}

by_parts : (test : Kind → List AttributeText → Option ℕ → List Child → Bool) (node : Option Node) (kind : Kind) (attrs : List AttributeText) (contents : Option ℕ) (children : List Child)
    → option_map (λ (d : Node). d.kind) node ≡ Some kind → option_map (λ (d : Node). d.attrs) node ≡ Some attrs
    → option_map (λ (d : Node). d.contents) node ≡ Some contents → option_map (λ (d : Node). d.children) node ≡ Some children
    → option_map_or (λ (d : Node). test d.kind d.attrs d.contents d.children) node false ≡ test kind attrs contents children
by_parts test None kind attrs contents children k a co ch = absurd (none-some kind k)
by_parts test (Some d) kind attrs contents children k a co ch = cc

module _ (b : List ℕ) (u : Unpacked) (n at : ℕ) where
  -- if there is no node, none is equal
  pub nowhere : length u.arena.nodes ≤ at → false ≡ is_same_in b u n at
  unfolding is_same_in
  nowhere le = sym (ap (λ node. option_map_or (λ (d : Node). is_same_node b u n d.kind d.attrs d.contents d.children) node false) (slice_get_past u.arena.nodes at le))

  pub there : (kind : Kind) (attrs : List AttributeText) (contents : Option ℕ) (children : List Child)
      → option_map (λ (d : Node). d.kind) (slice_get u.arena.nodes at) ≡ Some kind → option_map (λ (d : Node). d.attrs) (slice_get u.arena.nodes at) ≡ Some attrs
      → option_map (λ (d : Node). d.contents) (slice_get u.arena.nodes at) ≡ Some contents → option_map (λ (d : Node). d.children) (slice_get u.arena.nodes at) ≡ Some children
      → is_same_node b u n kind attrs contents children ≡ is_same_in b u n at
  unfolding is_same_in
  there kind attrs contents children k a co ch = sym (by_parts (is_same_node b u n) (slice_get u.arena.nodes at) kind attrs contents children k a co ch)
