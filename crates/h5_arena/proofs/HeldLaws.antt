-- The data of a node of an arena, whose nodes are a forest.
use Rattle.std.proofs.Common.{◌≡◌, ◌<◌, ℕ, zero, suc, List, [], ◌∷◌, All, Option, None, Some, IfSome, length, refl, ap, sym, ◌∙◌, arith, subst, get_or}
use Rattle.std.proofs.lemmas.List.{length-map}
use Rattle.std.specs.List.{slice_get}
use Rattle.std.specs.Option.{option_map}
use Rattle.h5_interface.specs.Forest.{Child, Forest, IsForest, Node, children_of, count, nodes}
use Rattle.h5_interface.proofs.ForestLaws.{child_is_node, contents_are_node, parent_of_child}
use Rattle.h5_arena.specs.ArenaModel.{ArenaView, HoldsOwners, IsChildHeld, IsHeld, at_node, child_views, forest_seen, node_view, node_views, optional_place}
use Rattle.h5_arena.specs.declared.nodes.Child as child
use Rattle.h5_arena.specs.declared.nodes.Child.TheVariants as child_is
use Rattle.h5_arena.specs.declared.nodes.NodeData.{NodeData}
use Rattle.h5_arena.specs.declared.nodes.NodeId.{NodeId}
use Rattle.h5_arena.proofs.CallConditions.{some_same}
use Rattle.h5_arena.proofs.LevelLaws.{held}
use Rattle.h5_arena.proofs.NodeCallLaws.{contents_told, here_first, here_later}
use Rattle.h5_arena.proofs.NodeWrites.{node_at}

-- the data of a node of an arena is that of the stored node
pub node_told : {T : Type 0} (look : Node → T) (a : ArenaView) (ns : List NodeData) (id : NodeId) (d : NodeData) → node_views ns ≡ a.nodes → IsHeld a id → d ≡ get_or ns id.index d → at_node look a id ≡ Some (look (node_view d))
node_told look a ns id d e there is =
    ap (λ xs. option_map look (slice_get xs id.index)) (sym e)
    ∙ ap (option_map look) (node_at ns id.index d (omega (arith, there, ap length e, length-map ns node_view)) is)

children_told : (f : Forest) (n : ℕ) (cs : List Child) → option_map (λ d. d.children) (f.node n) ≡ Some cs → children_of f n ≡ cs
children_told f n cs e = at (f.node n) refl
  where
    at : (o : Option Node) → f.node n ≡ o → children_of f n ≡ cs
    at None w = let v = (rw w at e) in cc
    at (Some d) w = rw w (some_same _ _ (rw w at e))

each_held : (a : ArenaView) (xs : List child.Child) → ((m : ℕ) → 0 < count m (nodes (child_views xs)) → m < length a.nodes) → All (IsChildHeld a) xs
each_held a [] h k d lt = absurd (omega (arith, lt))
each_held a (child_is.Node id ∷ xs) h zero d lt = h id.index (here_first id.index (child_views xs))
each_held a (child_is.Node id ∷ xs) h (suc k) d lt = each_held a xs (λ m w. h m (here_later m id.index (child_views xs) w)) k d (omega (arith, lt))
each_held a (child_is.Text text ∷ xs) h zero d lt = tt
each_held a (child_is.Text text ∷ xs) h (suc k) d lt = each_held a xs h k d (omega (arith, lt))

pub children_held : (a : ArenaView) (id : NodeId) (xs : List child.Child) → IsForest (forest_seen a) → at_node (λ d. d.children) a id ≡ Some (child_views xs) → All (IsChildHeld a) xs
children_held a id xs k e =
    let f = forest_seen a in
    let told = children_told f id.index (child_views xs) e in
    each_held a xs (λ m h. held f m k (child_is_node f m id.index (parent_of_child f id.index m k (subst (λ cs. 0 < count m (nodes cs)) (sym told) h))))

pub parent_held : (a : ArenaView) (id : NodeId) (parent : Option NodeId) → IsForest (forest_seen a) → at_node (λ d. d.parent) a id ≡ Some (optional_place parent) → IfSome parent (IsHeld a)
parent_held a id None k e = tt
parent_held a id (Some p) k e = at ((forest_seen a).node id.index) refl
  where
    at : (o : Option Node) → (forest_seen a).node id.index ≡ o → p.index < length a.nodes
    at None w = let v = (rw w at e) in cc
    at (Some d) w = held (forest_seen a) p.index k (k.inside p.index id.index (rw w (some_same _ _ (rw w at e))))

pub contents_held : (a : ArenaView) (id : NodeId) (contents : Option NodeId) → IsForest (forest_seen a) → at_node (λ d. d.contents) a id ≡ Some (optional_place contents) → IfSome contents (IsHeld a)
contents_held a id None k e = tt
contents_held a id (Some c) k e =
    let f = forest_seen a in held f c.index k (contents_are_node f id.index c.index k (contents_told f id.index (Some c.index) e))

pub form_held : (a : ArenaView) (id : NodeId) (form : Option NodeId) → IsForest (forest_seen a) → HoldsOwners (forest_seen a) → at_node (λ d. d.marks.form) a id ≡ Some (optional_place form) → IfSome form (IsHeld a)
form_held a id None whole k e = tt
form_held a id (Some owner) whole k e = at ((forest_seen a).node id.index) refl
  where
    at : (o : Option Node) → (forest_seen a).node id.index ≡ o → owner.index < length a.nodes
    at None w = let v = (rw w at e) in cc
    at (Some d) w = held (forest_seen a) owner.index whole (k.owner id.index owner.index (rw w (some_same _ _ (rw w at e))))
