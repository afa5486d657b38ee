-- What the shape of a forest says about ancestors and children.
use Rattle.std.proofs.Common.{◌≡◌, ◌≢◌, ◌∙◌, ℕ, ◌<◌, Bool, true, false, ◌||◌, ap, arith, eqb, inl, inr, length, List, [], ◌∷◌, refl, sym}
use Rattle.std.specs.Prelude.{is_some, Option, Some}
use Rattle.std.specs.List.{AllByRecursion, IsDistinct, list_any}
use Rattle.std.specs.Option.{option_and_then, option_map}
use Rattle.std.proofs.lemmas.Bool.{cases_lt, eq-eqb, eqb-true}
use Rattle.std.proofs.lemmas.Map.Steps.{length-le_from_distinct_below}
use Rattle.h5_interface.specs.Ancestors.{Further, IsAncestor, Parent}
use Rattle.h5_interface.specs.Forest.{Forest, IsNode, Kind, Node, children_of, count, nodes, parent_of}
use Rattle.h5_interface.proofs.AncestorLaws.{ancestor_trans}
use Rattle.h5_interface.proofs.ForestLaws.{at_parent, child_is_node, children_few}
use Rattle.h5_arena.specs.ArenaModel.{name_of_kind}
use Rattle.h5_arena.proofs.ClimbLaws.{AreUnder}
use Rattle.h5_tree.specs.Elements.{is_element}
use Rattle.h5_tree.specs.Shape.{IsShaped}

-- a number that isn't in a list differs from each of it
apart : (n : ℕ) (xs : List ℕ) → ((a : ℕ) → list_any (eqb a) xs ≡ true → n ≢ a) → AllByRecursion (λ y. eqb n y ≡ false) xs
apart n [] h = tt
apart n (x ∷ xs) h = (differ (eqb n x) refl, apart n xs (λ a w. h a (or_right (eqb a x) _ w)))
  where
    or_right : (a b : Bool) → b ≡ true → (a || b) ≡ true
    or_right true b w = refl
    or_right false b w = w

    or_left : (a b : Bool) → a ≡ true → (a || b) ≡ true
    or_left true b w = refl
    or_left false b w = cc

    differ : (b : Bool) → eqb n x ≡ b → eqb n x ≡ false
    differ true w = absurd (h x (or_left (eqb x x) _ (eq-eqb x x refl)) (eqb-true n x w))
    differ false w = w

-- a node's number is below the bound
pub held : (f : Forest) (n : ℕ) → IsShaped f → IsNode f n → n < f.bound
held f n k there = elim (cases_lt n f.bound) [ inl lt ↦ lt | inr past ↦ absurd (there (k.bounded n past)) ]

-- an element is a node
pub element_is_node : (f : Forest) (n : ℕ) → is_element f n ≡ true → IsNode f n
element_is_node f n e gone =
    let none : is_element f n ≡ false = ap (λ (o : Option Node). is_some (option_and_then name_of_kind (option_map {U = Kind} (λ (d : Node). d.kind) o))) gone in
    let w : true ≡ false = sym e ∙ none in cc

pub element_is_held : (f : Forest) (n : ℕ) → IsShaped f → is_element f n ≡ true → n < f.bound
element_is_held f n k e = held f n k (element_is_node f n e)

pub ancestor_is_node : (f : Forest) (a n : ℕ) → IsShaped f → IsAncestor (parent_of f) a n → IsNode f a
ancestor_is_node f a n k (Parent e) = k.inside a n e
ancestor_is_node f a n k (Further q h e) = ancestor_is_node f a q k h

-- the parent of a node
pub parent_of_child : (f : Forest) (p c : ℕ) → IsShaped f → 0 < count c (nodes (children_of f p)) → parent_of f c ≡ Some p
parent_of_child f p c k h = at_parent p (parent_of f c) (rw (← k.one_parent p c) (let few = children_few f p c in omega arith))

pub one_more_under : (f : Forest) (n p : ℕ) (under : List ℕ) → IsShaped f → AreUnder f n under → parent_of f n ≡ Some p → AreUnder f p (n ∷ under)
unfolding IsDistinct
one_more_under f n p under k h e = record {
  descendants = λ a w. at a (eqb a n) refl w;
  distinct = (apart n under (λ a w same. k.acyclic n (rw (sym same) at (h.descendants a w))), h.distinct);
}
  where
    at : (a : ℕ) (b : Bool) → eqb a n ≡ b → (eqb a n || list_any (eqb a) under) ≡ true → IsAncestor (parent_of f) p a
    at a true w g = Parent (rw (eqb-true a n w) e)
    at a false w g = ancestor_trans (parent_of f) p n a (Parent e) (h.descendants a (rw w at g))

descendant_is_node : (f : Forest) (n a : ℕ) → IsAncestor (parent_of f) n a → IsNode f a
descendant_is_node f n a (Parent e) = child_is_node f a n e
descendant_is_node f n a (Further p h e) = child_is_node f a p e

-- a node has fewer nodes under it than there are
pub few_under : (f : Forest) (n : ℕ) (under : List ℕ) → IsShaped f → IsNode f n → AreUnder f n under → length under < f.bound
unfolding IsDistinct
few_under f n under k there h =
    let within = length-le_from_distinct_below (n ∷ under) f.bound (apart n under (λ a e same. k.acyclic n (rw (sym same) at (h.descendants a e))), h.distinct) (λ q e. at q (eqb q n) refl e) in
    omega arith
  where
    at : (q : ℕ) (b : Bool) → eqb q n ≡ b → (eqb q n || list_any (eqb q) under) ≡ true → q < f.bound
    at q true e g = rw (eqb-true q n e) (held f n k there)
    at q false e g = held f q k (descendant_is_node f n q (h.descendants q (rw e at g)))
