-- The ancestors of a node, one by one.
use Rattle.std.proofs.Common.{◌≡◌, ◌∙◌, ℕ, suc, ◌+◌, ◌-◌, ◌<◌, List, [], ◌∷◌, ◌++◌, Option, None, Some, ap, append_assoc, arith, map, refl, sym}
use Rattle.std.specs.Option.{option_and_then, option_map, option_map_or}
use Rattle.std.proofs.lemmas.List.{map-append}
use Prim.Native.Nat.{zero, suc}
use Rattle.h5_interface.specs.Forest.{Forest, Node}
use Rattle.h5_arena.specs.ArenaModel.{ArenaView, at_node, child_parent, forest_seen, place}
use Rattle.h5_arena.specs.Kin.{ancestors_within, tree_parent}
use Rattle.h5_arena.specs.declared.nodes.NodeId.{NodeId}

-- the parent that an arena returns is that of the forest
told : (o : Option Node) (p : Option ℕ) → option_map child_parent o ≡ Some p → option_and_then child_parent o ≡ p
told None p e = cc
told (Some d) p e = cc

pub parent_told : (a : ArenaView) (id : NodeId) (p : Option ℕ) → at_node child_parent a id ≡ Some p → tree_parent (forest_seen a) id.index ≡ p
parent_told a id p e = told ((forest_seen a).node id.index) p e

pub none_above : (f : Forest) (k n : ℕ) → tree_parent f n ≡ None → ancestors_within k f n ≡ []
none_above f zero n e = refl
none_above f (suc k) n e = ap (λ o. option_map_or (λ p. p ∷ ancestors_within k f p) o []) e

one_above : (f : Forest) (k n p : ℕ) → tree_parent f n ≡ Some p → ancestors_within (suc k) f n ≡ p ∷ ancestors_within k f p
one_above f k n p e = ap (λ o. option_map_or (λ p. p ∷ ancestors_within k f p) o []) e

-- one ancestor more
pub one_up : (f : Forest) (found : List NodeId) (at p : NodeId) (end step : ℕ) (total : List ℕ) → step < end → tree_parent f at.index ≡ Some p.index
    → map place found ++ ancestors_within (end - step) f at.index ≡ total
    → map place (found ++ p ∷ []) ++ ancestors_within (end - (step + 1)) f p.index ≡ total
one_up f found at p end step total lt e h =
    let k : end - step ≡ suc (end - (step + 1)) = omega (arith, lt) in
    ap (λ l. l ++ ancestors_within (end - (step + 1)) f p.index) (map-append place found (p ∷ []))
    ∙ append_assoc (map place found) (p.index ∷ []) (ancestors_within (end - (step + 1)) f p.index)
    ∙ ap (λ l. map place found ++ l) (sym (one_above f (end - (step + 1)) at.index p.index e))
    ∙ ap (λ m. map place found ++ ancestors_within m f at.index) (sym k)
    ∙ h
