-- A forest has no more levels than nodes.
use Rattle.std.proofs.Common.{◌≡◌, ◌≢◌, ◌∙◌, ℕ, ◌+◌, ◌<◌, ◌≤◌, Bool, true, false, ◌||◌, eqb, List, [], ◌∷◌, ap, arith, length, refl, rules, sym, tests}
use Rattle.std.specs.Prelude.{Option, None, Some, nat_lt}
use Rattle.std.specs.List.{AllByRecursion, IsDistinct, list_any}
use Rattle.std.proofs.lemmas.Bool.{eq-eqb, eqb-true}
use Rattle.std.proofs.lemmas.Map.Steps.{length-le_from_distinct_below}
use Prim.Native.Nat.{zero, suc}
use Rattle.h5_interface.specs.Ancestors.{Further, IsAncestor, Parent}
use Rattle.h5_interface.specs.Forest.{Forest, IsForest, IsNode, Node, below_of, contents_of, count, nodes, parent_of}
use Rattle.h5_interface.proofs.AncestorLaws.{ancestor_trans}
use Rattle.h5_interface.proofs.ChildLaws.{count-append}
use Rattle.h5_interface.proofs.ForestLaws.{ancestor_is_node, is_some, parent_of_child, at_parent}
use Rattle.h5_arena.specs.NodeCalls.{shown_children}

-- contents have their template as parent
pub parent_of_contents : (f : Forest) (p c : ℕ) → IsForest f → contents_of f p ≡ Some c → parent_of f c ≡ Some p
parent_of_contents f p c k h = at_parent p (parent_of f c) (rw (← k.one_parent p c) (at (f.node p) refl))
  where
    at : (o : Option Node) → f.node p ≡ o → 0 < count c (below_of f p)
    at None e = let w = (rw e at h) in cc
    at (Some d) e =
        let w : d.contents ≡ Some c = (rw e at h) in
        rw (e, w, count-append) (rw (eq-eqb c c refl) (omega arith))

-- a shown child of a node has the node as an ancestor
pub shown_is_below : (f : Forest) (n m : ℕ) → IsForest f → 0 < count m (nodes (shown_children f n)) → IsAncestor (parent_of f) n m
shown_is_below f n m k h = at (contents_of f n) refl
  where
    at : (o : Option ℕ) → contents_of f n ≡ o → IsAncestor (parent_of f) n m
    at None e = Parent (parent_of_child f n m k (rw e at h))
    at (Some c) e = Further c (Parent (parent_of_contents f n c k e)) (parent_of_child f c m k (rw e at h))

-- pairwise different numbers, each an ancestor of n
record AreAbove (f : Forest) (n : ℕ) (above : List ℕ) : Type 0 where
  ancestors : (a : ℕ) → list_any (eqb a) above ≡ true → IsAncestor (parent_of f) a n
  distinct : IsDistinct eqb above

none_above : (f : Forest) (n : ℕ) → AreAbove f n []
unfolding IsDistinct
none_above f n = record { ancestors = λ a h. cc; distinct = tt }

pub apart : (n : ℕ) (xs : List ℕ) → ((a : ℕ) → list_any (eqb a) xs ≡ true → n ≢ a) → AllByRecursion (λ y. eqb n y ≡ false) xs
apart n [] h = tt
apart n (x ∷ xs) h = (differ (eqb n x) refl, apart n xs (λ a w. h a (or_right (eqb a x) _ w)))
  where
    or_right : (a b : Bool) → b ≡ true → (a || b) ≡ true
    or_right true b w = refl
    or_right false b w = w

    or_left : (a b : Bool) → a ≡ true → (a || b) ≡ true
    or_left true b w = refl
    or_left false b w = cc

    differ : (b : Bool) → eqb n x ≡ b → eqb n x ≡ false
    differ true w = absurd (h x (or_left (eqb x x) _ (eq-eqb x x refl)) (eqb-true n x w))
    differ false w = w

one_more : (f : Forest) (n m : ℕ) (above : List ℕ) → IsForest f → AreAbove f n above → IsAncestor (parent_of f) n m → AreAbove f m (n ∷ above)
unfolding IsDistinct
one_more f n m above k h w = record {
  ancestors = λ a e. at a (eqb a n) refl e;
  distinct = (apart n above (λ a e same. k.acyclic n (rw (sym same) at (h.ancestors a e))), h.distinct);
}
  where
    at : (a : ℕ) (b : Bool) → eqb a n ≡ b → (eqb a n || list_any (eqb a) above) ≡ true → IsAncestor (parent_of f) a m
    at a true e g = rw (eqb-true a n e) w
    at a false e g = ancestor_trans (parent_of f) a n m (h.ancestors a (rw e at g)) w

-- a node is below the bound
pub held : (f : Forest) (n : ℕ) → IsForest f → IsNode f n → n < f.bound
held f n k there = at (nat_lt n f.bound) refl
  where
    at : (b : Bool) → nat_lt n f.bound ≡ b → n < f.bound
    at true e = search (rules, tests)
    at false e = absurd (there (k.bounded n (search (rules, tests))))

-- a node has fewer ancestors than there are nodes
few_above : (f : Forest) (n : ℕ) (above : List ℕ) → IsForest f → IsNode f n → AreAbove f n above → length above < f.bound
unfolding IsDistinct
few_above f n above k there h =
    let within = length-le_from_distinct_below (n ∷ above) f.bound (apart n above (λ a e same. k.acyclic n (rw (sym same) at (h.ancestors a e))), h.distinct) (λ q e. at q (eqb q n) refl e) in
    omega arith
  where
    at : (q : ℕ) (b : Bool) → eqb q n ≡ b → (eqb q n || list_any (eqb q) above) ≡ true → q < f.bound
    at q true e g = rw (eqb-true q n e) (held f n k there)
    at q false e g = held f q k (ancestor_is_node f q n k (h.ancestors q (rw e at g)))

-- a node directly below a node, as a child or as contents, has it as its parent
pub below_has_parent : (f : Forest) (n m : ℕ) → IsForest f → 0 < count m (below_of f n) → parent_of f m ≡ Some n
below_has_parent f n m k h = at_parent n (parent_of f m) (rw (← k.one_parent n m) h)

-- a result level by level is complete after as many levels as there are nodes
module _ {A : Type 0} (f : Forest) (k : IsForest f) (down : ℕ → List ℕ) (is_below : (n m : ℕ) → 0 < count m (down n) → IsAncestor (parent_of f) n m) (found : ℕ → ℕ → A) (gone : (levels n : ℕ) → f.node n ≡ None → found (suc levels) n ≡ found levels n) (further : (levels n : ℕ) → ((m : ℕ) → 0 < count m (down n) → found (suc levels) m ≡ found levels m) → found (suc (suc levels)) n ≡ found (suc levels) n) where
  settled_from : (levels n : ℕ) (above : List ℕ) → AreAbove f n above → f.bound ≤ length above + levels → found (suc levels) n ≡ found levels n
  settled_from zero n above h e = at (f.node n) refl
    where
      at : (o : Option Node) → f.node n ≡ o → found (suc zero) n ≡ found zero n
      at None w = gone zero n w
      at (Some d) w = absurd (let few = few_above f n above k (is_some (f.node n) d w) h in omega arith)
  settled_from (suc levels) n above h e =
      further levels n (λ m w. settled_from levels m (n ∷ above) (one_more f n m above k h (is_below n m w)) (omega arith))

  pub settled : (n : ℕ) → found (suc f.bound) n ≡ found f.bound n
  settled n = settled_from f.bound n [] (none_above f n) (omega arith)

  -- and more levels change nothing
  pub settled_beyond : (more n : ℕ) → found (f.bound + more) n ≡ found f.bound n
  settled_beyond zero n = ap (λ levels. found levels n) (omega arith)
  settled_beyond (suc more) n =
      let e : f.bound + suc more ≡ suc (f.bound + more) = omega arith in
      ap (λ levels. found levels n) e ∙ settled_from (f.bound + more) n [] (none_above f n) (omega arith) ∙ settled_beyond more n
