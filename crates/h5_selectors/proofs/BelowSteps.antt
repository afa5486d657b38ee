-- Everything below a node is in its children or below them.
use Rattle.std.proofs.Common.{◌≡◌, ◌≢◌, ◌∙◌, ℕ, ◌+◌, ◌<◌, ◌≤◌, Bool, true, false, ◌||◌, List, [], ◌∷◌, ◌++◌, Some, ap, arith, cond, eqb, length, refl, sym}
use Rattle.std.specs.List.{AllByRecursion, IsDistinct, flat_map, list_any}
use Rattle.std.proofs.lemmas.Bool.{eq-eqb, eqb-true}
use Rattle.std.proofs.lemmas.List.Elements.{filter-append}
use Rattle.std.proofs.lemmas.Map.Steps.{length-le_from_distinct_below}
use Prim.Native.Nat.{zero, suc}
use Rattle.h5_interface.specs.Ancestors.{Further, IsAncestor, Parent}
use Rattle.h5_interface.specs.Forest.{Child, ChildNode, ChildText, Forest, IsNode, children_of, count, nodes, parent_of}
use Rattle.h5_interface.proofs.ChildLaws.{nodes-append}
use Rattle.h5_interface.proofs.ForestLaws.{child_is_node}
use Rattle.h5_arena.specs.Kin.{descendants_with_text, descendants, with_below}
use Rattle.h5_selectors.specs.Rows as rows
use Rattle.h5_tree.specs.Elements.{AreElementsOrLeaves, below, child_elements, elements, elements_among, is_element}
use Rattle.h5_tree.specs.Shape.{IsShaped}
use Rattle.h5_tree.proofs.ShapedLaws.{ancestor_is_node, held, parent_of_child}

-- a number that isn't in a list differs from each entry
apart : (n : ℕ) (xs : List ℕ) → ((a : ℕ) → list_any (eqb a) xs ≡ true → n ≢ a) → AllByRecursion (λ y. eqb n y ≡ false) xs
apart n [] h = tt
apart n (x ∷ xs) h = (differ (eqb n x) refl, apart n xs (λ a w. h a (or_right (eqb a x) _ w)))
  where
    or_right : (a b : Bool) → b ≡ true → (a || b) ≡ true
    or_right true b w = refl
    or_right false b w = w

    or_left : (a b : Bool) → a ≡ true → (a || b) ≡ true
    or_left true b w = refl
    or_left false b w = cc

    differ : (b : Bool) → eqb n x ≡ b → eqb n x ≡ false
    differ true w = absurd (h x (or_left (eqb x x) _ (eq-eqb x x refl)) (eqb-true n x w))
    differ false w = w

-- pairwise different numbers, each of which is an ancestor of n
record AreOver (f : Forest) (n : ℕ) (over : List ℕ) : Type 0 where
  pub ancestors : (a : ℕ) → list_any (eqb a) over ≡ true → IsAncestor (parent_of f) a n
  pub distinct : IsDistinct eqb over

none_over : (f : Forest) (n : ℕ) → AreOver f n []
unfolding IsDistinct
none_over f n = record { ancestors = λ a h. cc; distinct = tt }

one_more_over : (f : Forest) (n m : ℕ) (over : List ℕ) → IsShaped f → AreOver f n over → parent_of f m ≡ Some n → AreOver f m (n ∷ over)
unfolding IsDistinct
one_more_over f n m over k h e = record {
  ancestors = λ a w. at a (eqb a n) refl w;
  distinct = (apart n over (λ a w same. k.acyclic n (rw (sym same) at (h.ancestors a w))), h.distinct);
}
  where
    at : (a : ℕ) (b : Bool) → eqb a n ≡ b → (eqb a n || list_any (eqb a) over) ≡ true → IsAncestor (parent_of f) a m
    at a true w g = Parent (rw (eqb-true a n w) e)
    at a false w g = Further n (h.ancestors a (rw w at g)) e

-- a node has fewer ancestors than there are nodes
few_over : (f : Forest) (n : ℕ) (over : List ℕ) → IsShaped f → IsNode f n → AreOver f n over → length over < f.bound
unfolding IsDistinct
few_over f n over k there h =
    let within = length-le_from_distinct_below (n ∷ over) f.bound (apart n over (λ a e same. k.acyclic n (rw (sym same) at (h.ancestors a e))), h.distinct) (λ q e. at q (eqb q n) refl e) in
    omega arith
  where
    at : (q : ℕ) (b : Bool) → eqb q n ≡ b → (eqb q n || list_any (eqb q) over) ≡ true → q < f.bound
    at q true e g = rw (eqb-true q n e) (held f n k there)
    at q false e g = held f q k (ancestor_is_node f q n k (h.ancestors q (rw e at g)))

-- children of n
abbrev AreChildren : Forest → ℕ → List Child → Type 0
AreChildren f n cs = (m : ℕ) → 0 < count m (nodes cs) → parent_of f m ≡ Some n

first_child : (f : Forest) (n m : ℕ) (cs : List Child) → AreChildren f n (ChildNode m ∷ cs) → parent_of f m ≡ Some n
first_child f n m cs h = h m (rw (eq-eqb m m refl) (omega arith))

further_children : (f : Forest) (n m : ℕ) (cs : List Child) → AreChildren f n (ChildNode m ∷ cs) → AreChildren f n cs
further_children f n m cs h = λ q w. h q (omega (arith, w))

text_alone : (f : Forest) (levels : ℕ) (t : List ℕ) → with_below levels f (ChildText t) ≡ ChildText t ∷ []
unfolding with_below
text_alone f zero t = refl
text_alone f (suc levels) t = refl

-- more levels change nothing
all_settled : (f : Forest) (levels n : ℕ) (cs : List Child) → AreChildren f n cs → ((m : ℕ) → parent_of f m ≡ Some n → with_below (suc levels) f (ChildNode m) ≡ with_below levels f (ChildNode m))
    → flat_map (with_below (suc levels) f) cs ≡ flat_map (with_below levels f) cs
all_settled f levels n [] are each = refl
all_settled f levels n (ChildText t ∷ cs) are each =
    ap (λ l. l ++ flat_map (with_below (suc levels) f) cs) (text_alone f (suc levels) t ∙ sym (text_alone f levels t))
    ∙ ap (λ l. with_below levels f (ChildText t) ++ l) (all_settled f levels n cs are each)
all_settled f levels n (ChildNode m ∷ cs) are each =
    ap (λ l. l ++ flat_map (with_below (suc levels) f) cs) (each m (first_child f n m cs are))
    ∙ ap (λ l. with_below levels f (ChildNode m) ++ l) (all_settled f levels n cs (further_children f n m cs are) each)

settled : (f : Forest) (levels n : ℕ) (over : List ℕ) → IsShaped f → IsNode f n → AreOver f n over → f.bound ≤ length over + levels
    → with_below (suc levels) f (ChildNode n) ≡ with_below levels f (ChildNode n)
unfolding with_below
settled f zero n over k there h le = let few = few_over f n over k there h in absurd (omega arith)
settled f (suc levels) n over k there h le =
    ap (λ l. ChildNode n ∷ l) (all_settled f levels n (children_of f n) (λ m w. parent_of_child f n m k w)
    (λ m up. settled f levels m (n ∷ over) k (child_is_node f m n up) (one_more_over f n m over k h up) (omega (arith, le))))

-- a node that is a child, and all below it
whole : (f : Forest) (n : ℕ) → IsShaped f → IsNode f n → with_below f.bound f (ChildNode n) ≡ ChildNode n ∷ descendants_with_text f n
unfolding with_below
whole f n k there = sym (settled f f.bound n [] k there (none_over f n) (omega arith))

below_them : (f : Forest) (n : ℕ) (cs : List Child) → IsShaped f → AreChildren f n cs → AreElementsOrLeaves f cs
    → elements f (nodes (flat_map (with_below f.bound f) cs)) ≡ flat_map (rows.with_below f) (elements_among f cs)
below_them f n [] k are bare = refl
below_them f n (ChildText t ∷ cs) k are bare =
    ap (λ l. elements f (nodes (l ++ flat_map (with_below f.bound f) cs))) (text_alone f f.bound t)
    ∙ below_them f n cs k are bare.1
below_them f n (ChildNode m ∷ cs) k are bare =
    let rest = flat_map (with_below f.bound f) cs in
    let there = child_is_node f m n (first_child f n m cs are) in
    ap (λ l. elements f (nodes (l ++ rest))) (whole f m k there)
    ∙ ap (elements f) (nodes-append (ChildNode m ∷ descendants_with_text f m) rest)
    ∙ filter-append (is_element f) (m ∷ descendants f m) (nodes rest)
    ∙ ap (λ l. elements f (m ∷ descendants f m) ++ l) (below_them f n cs k (further_children f n m cs are) bare.1)
    ∙ at (is_element f m) refl bare.0
  where
    all : List ℕ
    all = elements_among f cs

    at : (b : Bool) → is_element f m ≡ b → (is_element f m ≡ false → children_of f m ≡ [])
        → cond (is_element f m) (m ∷ below f m) (below f m) ++ flat_map (rows.with_below f) all ≡ flat_map (rows.with_below f) (cond (is_element f m) (m ∷ all) all)
    at true e h = rw e refl
    at false e h =
        let none : below f m ≡ [] = ap (λ l. elements f (nodes (flat_map (with_below f.bound f) l))) (h e) in
        rw (e, none) refl

pub below_children : (f : Forest) (n : ℕ) → IsShaped f → AreElementsOrLeaves f (children_of f n) → below f n ≡ flat_map (rows.with_below f) (child_elements f n)
below_children f n k bare = below_them f n (children_of f n) k (λ m w. parent_of_child f n m k w) bare
