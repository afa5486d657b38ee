-- The way up from a node ends after no more steps than there are nodes.
use Rattle.std.proofs.Common.{◌≡◌, ◌≢◌, ◌∙◌, ℕ, ◌<◌, Bool, true, false, ◌||◌, ap, eqb, get_or, inl, inr, List, [], ◌∷◌, arith, length, refl, sym}
use Rattle.std.specs.Prelude.{Option, None, Some}
use Rattle.std.specs.List.{IsDistinct, list_any}
use Rattle.std.proofs.lemmas.Bool.{eqb-true}
use Rattle.std.proofs.lemmas.Map.Steps.{length-le_from_distinct_below}
use Rattle.h5_interface.specs.Ancestors.{AtOrAbove, Further, IsAncestor, Parent}
use Rattle.h5_interface.specs.Forest.{Forest, IsForest, IsNode, parent_of}
use Rattle.h5_interface.proofs.AncestorLaws.{ancestor_trans, no_ancestor}
use Rattle.h5_interface.proofs.ForestLaws.{child_is_node}
use Rattle.h5_arena.specs.ArenaModel.{forest_in, link_place, optional_place}
use Rattle.h5_arena.specs.declared.nodes.NodeData.{NodeData}
use Rattle.h5_arena.specs.declared.nodes.NodeId.{NodeId}
use Rattle.h5_arena.proofs.LevelLaws.{apart, held}
use Rattle.h5_arena.proofs.NodeWrites.{node_at}

-- pairwise different numbers, each of which has n as an ancestor
pub record AreUnder (f : Forest) (n : ℕ) (under : List ℕ) : Type 0 where
  pub descendants : (a : ℕ) → list_any (eqb a) under ≡ true → IsAncestor (parent_of f) n a
  pub distinct : IsDistinct eqb under

pub none_under : (f : Forest) (n : ℕ) → AreUnder f n []
unfolding IsDistinct
none_under f n = record { descendants = λ a h. cc; distinct = tt }

pub one_more_under : (f : Forest) (n p : ℕ) (under : List ℕ) → IsForest f → AreUnder f n under → parent_of f n ≡ Some p → AreUnder f p (n ∷ under)
unfolding IsDistinct
one_more_under f n p under k h e = record {
  descendants = λ a w. at a (eqb a n) refl w;
  distinct = (apart n under (λ a w same. k.acyclic n (rw (sym same) at (h.descendants a w))), h.distinct);
}
  where
    at : (a : ℕ) (b : Bool) → eqb a n ≡ b → (eqb a n || list_any (eqb a) under) ≡ true → IsAncestor (parent_of f) p a
    at a true w g = Parent (rw (eqb-true a n w) e)
    at a false w g = ancestor_trans (parent_of f) p n a (Parent e) (h.descendants a (rw w at g))

descendant_is_node : (f : Forest) (n a : ℕ) → IsAncestor (parent_of f) n a → IsNode f a
descendant_is_node f n a (Parent e) = child_is_node f a n e
descendant_is_node f n a (Further p h e) = child_is_node f a p e

-- a node has fewer nodes under it than there are
pub few_under : (f : Forest) (n : ℕ) (under : List ℕ) → IsForest f → IsNode f n → AreUnder f n under → length under < f.bound
unfolding IsDistinct
few_under f n under k there h =
    let within = length-le_from_distinct_below (n ∷ under) f.bound (apart n under (λ a e same. k.acyclic n (rw (sym same) at (h.descendants a e))), h.distinct) (λ q e. at q (eqb q n) refl e) in
    omega arith
  where
    at : (q : ℕ) (b : Bool) → eqb q n ≡ b → (eqb q n || list_any (eqb q) under) ≡ true → q < f.bound
    at q true e g = rw (eqb-true q n e) (held f n k there)
    at q false e g = held f q k (descendant_is_node f n q (h.descendants q (rw e at g)))

-- a node at or above a node is that node, or is at or above its parent
pub above_parent : (up : ℕ → Option ℕ) (a n p : ℕ) → a ≢ n → up n ≡ Some p → AtOrAbove up a n → AtOrAbove up a p
above_parent up a n p apart e (inl w) = absurd (apart w)
above_parent up a n p apart e (inr (Parent w)) = inl (let v : Some a ≡ Some p = sym w ∙ e in cc)
above_parent up a n p apart e (inr (Further q h w)) = inr (let v : Some q ≡ Some p = sym w ∙ e in let u : q ≡ p = cc in (rw u at h))

-- a node without a parent has nothing above it
pub above_none : (up : ℕ → Option ℕ) (a n : ℕ) → a ≢ n → up n ≡ None → ¬ (AtOrAbove up a n)
above_none up a n apart e (inl w) = apart w
above_none up a n apart e (inr h) = no_ancestor up a n e h

pub parent_above : (up : ℕ → Option ℕ) (p a n : ℕ) → up a ≡ Some p → AtOrAbove up a n → AtOrAbove up p n
parent_above up p a n e (inl w) = inr (Parent (rw (sym w) e))
parent_above up p a n e (inr h) = inr (ancestor_trans up p a n (Parent e) h)

-- the parent that is read at a node
pub parent_at : (ns : List NodeData) (i : ℕ) (d : NodeData) (o q : Option NodeId) → i < length ns → d ≡ get_or ns i d → optional_place o ≡ link_place (get_or ns i d).parent → o ≡ q → parent_of (forest_in ns) i ≡ optional_place q
parent_at ns i d o q h is e w = rw (node_at ns i d h is) (ap (λ (x : NodeData). link_place x.parent) is ∙ sym e ∙ ap optional_place w)
