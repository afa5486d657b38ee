-- The parent of a node, as an arena returns it and as its forest has it.
use Rattle.std.proofs.Common.{◌≡◌, ◌≢◌, ℕ, refl}
use Rattle.std.specs.Prelude.{IfNone, IfSome, Option, None, Some, slice_get}
use Rattle.h5_interface.specs.Forest.{CommentNode, DoctypeNode, DocumentNode, ElementNode, FragmentNode, InstructionNode, Kind, Node}
use Rattle.h5_arena.specs.declared.nodes.NodeId.{NodeId}
use Rattle.h5_arena.specs.ArenaModel.{ArenaView, IsChildOf, IsNoChild, at_node, child_parent, child_parent_of_kind, forest_seen, optional_place}

-- what is there is the same
pub some_same : {A : Type 0} (x y : A) → Some x ≡ Some y → x ≡ y
some_same x y e = cc

has_parent : (a : ArenaView) (id : NodeId) (p : ℕ) → at_node child_parent a id ≡ Some (Some p) → IsChildOf (forest_seen a) id.index p
has_parent a id p e = at (slice_get a.nodes id.index) refl
  where
    told : (k : Kind) (up : Option ℕ) → child_parent_of_kind k up ≡ Some p → (up ≡ Some p) × (k ≢ FragmentNode)
    told DocumentNode up w = (w, λ v. cc)
    told (DoctypeNode name public_id system_id) up w = (w, λ v. cc)
    told (ElementNode name) up w = (w, λ v. cc)
    told (CommentNode text) up w = (w, λ v. cc)
    told (InstructionNode target text) up w = (w, λ v. cc)
    told FragmentNode up w = absurd (let v : None ≡ Some p = w in cc)

    at : (o : Option Node) → slice_get a.nodes id.index ≡ o → IsChildOf (forest_seen a) id.index p
    at None w = let v = (rw w at e) in cc
    at (Some d) w =
        let t = told d.kind d.parent (some_same _ _ (rw w at e)) in
        record { parent = rw w t.0; no_fragment = λ v. t.1 (some_same _ _ (rw w at v)) }

has_none : (a : ArenaView) (id : NodeId) → at_node child_parent a id ≡ Some None → IsNoChild (forest_seen a) id.index
has_none a id e = at (slice_get a.nodes id.index) refl
  where
    told : (k : Kind) (up : Option ℕ) → child_parent_of_kind k up ≡ None → k ≢ FragmentNode → up ≡ None
    told DocumentNode up w apart = w
    told (DoctypeNode name public_id system_id) up w apart = w
    told (ElementNode name) up w apart = w
    told (CommentNode text) up w apart = w
    told (InstructionNode target text) up w apart = w
    told FragmentNode up w apart = absurd (apart refl)

    at : (o : Option Node) → slice_get a.nodes id.index ≡ o → IsNoChild (forest_seen a) id.index
    at None w = let v = (rw w at e) in cc
    at (Some d) w = λ apart. rw w (told d.kind d.parent (some_same _ _ (rw w at e)) (λ v. apart (rw w (rw v refl))))

-- a parent that is returned is the parent
pub child_of : (a : ArenaView) (id : NodeId) (o : Option NodeId) → at_node child_parent a id ≡ Some (optional_place o) → IfSome o (λ p. IsChildOf (forest_seen a) id.index p.index)
child_of a id None e = tt
child_of a id (Some p) e = has_parent a id p.index e

-- if none is returned there is none
pub no_child : (a : ArenaView) (id : NodeId) (o : Option NodeId) → at_node child_parent a id ≡ Some (optional_place o) → IfNone o (IsNoChild (forest_seen a) id.index)
no_child a id None e = has_none a id e
no_child a id (Some p) e = tt
