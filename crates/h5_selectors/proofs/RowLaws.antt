-- The links of rows.
use Rattle.std.proofs.Common.{◌≡◌, ◌≢◌, ◌∙◌, ◌⊎◌, ℕ, ◌+◌, ◌-◌, ◌<◌, ◌≤◌, Bool, true, false, List, [], ◌∷◌, ◌++◌, None, Some, All, ap, arith, below_more, drop, get_or, inl, inr, length, map, refl, set, subst, sym, take}
use Rattle.std.specs.Prelude.{◌==◌, slice_get}
use Rattle.std.proofs.lemmas.Bool.{eq-eqb, eqb-true}
use Rattle.std.proofs.lemmas.List.{drop_more, get_or-append_right, get_or-map, get_or-set_other, get_or-set_same, get_or_append_left, length-append, length-map, length-set, map-append, take_more}
use Rattle.std.proofs.lemmas.List.Elements.{All-push}
use Rattle.std.proofs.lemmas.Option.{slice_get-get_or, slice_get_cases}
use Rattle.std.proofs.Math.ListN.{drop_of_length-le}
use Prim.Native.Nat.{zero, suc}
use Rattle.h5_interface.specs.Forest.{Forest, children_of}
use Rattle.h5_tree.specs.Elements.{AreElementsOrLeaves, before, behind, child_elements}
use Rattle.h5_tree.specs.Shape.{IsShaped}
use Rattle.h5_selectors.specs.Rows.{AreBelow, AreChildRows, AreLinked, AreRising, AreWithin, IsBefore, IsBehind, IsFirst, IsLinked, entry_before, entry_behind, node_in}
use Rattle.h5_selectors.specs.declared.rows.Links.{Links}
use Rattle.h5_selectors.proofs.BelowSteps.{below_children}
use Rattle.h5_selectors.proofs.KinOrder.{its_parent, those_before, those_behind}

-- the links of one row are changed
pub one_linked : (f : Forest) (ns : List ℕ) (all : List Links) (row : ℕ) (new : Links) → AreLinked f ns all → IsLinked f ns row new → AreLinked f ns (set all row new)
one_linked f ns all row new h is k d lt = at (k == row) refl (let same = length-set all row new in omega (arith, lt))
  where
    at : (b : Bool) → (k == row) ≡ b → k < length all → IsLinked f ns k (get_or (set all row new) k d)
    at true e within =
        let here : k ≡ row = eqb-true k row e in
        let inside : row < length all = omega (arith, within, here) in
        subst (λ j. IsLinked f ns j (get_or (set all row new) j d)) (sym here) (subst (IsLinked f ns row) (sym (get_or-set_same all row new d inside)) is)
    at false e within =
        let other : k ≢ row = λ w. (let no = sym e ∙ eq-eqb k row w in cc) in
        subst (IsLinked f ns k) (sym (get_or-set_other all row k new d other)) (h k d within)

-- a row more
pub linked_more : (f : Forest) (ns : List ℕ) (all : List Links) (new : Links) → AreLinked f ns all → IsLinked f ns (length all) new → AreLinked f ns (all ++ new ∷ [])
linked_more f ns all new h is k d lt =
    below_more (λ j. IsLinked f ns j (get_or (all ++ new ∷ []) j d)) (length all)
    (λ j lj. subst (IsLinked f ns j) (sym (get_or_append_left all (new ∷ []) d j lj)) (h j d lj))
    (subst (IsLinked f ns (length all)) (sym last) is)
    k (let longer = length-append all (new ∷ []) in omega (arith, lt))
  where
    last : get_or (all ++ new ∷ []) (length all) d ≡ new
    last =
        let none : length all - length all ≡ 0 = omega arith in
        get_or-append_right all (new ∷ []) (length all) (length all) d refl (omega arith) ∙ ap (λ i. get_or (new ∷ []) i d) none

-- the rows found for children, with one more
pub row_found : {N : Type 0} (place : N → ℕ) (f : Forest) (ids cs : List N) (found : List ℕ) (i row : ℕ) (d e : N) → i < length cs → row < length ids → place (get_or ids row d) ≡ place (get_or cs i e)
    → map (node_in f (map place ids)) found ≡ map place (take i cs) → map (node_in f (map place ids)) (found ++ row ∷ []) ≡ map place (take (i + 1) cs)
row_found place f ids cs found i row d e lt within same h =
    map-append (node_in f (map place ids)) found (row ∷ [])
    ∙ ap (λ l. l ++ node_in f (map place ids) row ∷ []) h
    ∙ ap (λ n. map place (take i cs) ++ n ∷ []) (get_or-map place ids row d 0 within ∙ same)
    ∙ sym (map-append place (take i cs) (get_or cs i e ∷ []))
    ∙ ap (map place) (sym (take_more cs i e lt))

pub rising_more : (found : List ℕ) (row : ℕ) → AreRising found → All (λ r. r < row) found → AreRising (found ++ row ∷ [])
rising_more found row h low i lt = at (slice_get_cases found (i + 1)).1 (let longer = length-append found (row ∷ []) in omega (arith, lt))
  where
    all : List ℕ
    all = found ++ row ∷ []

    left : (j : ℕ) → j < length found → get_or found j 0 ≡ get_or all j 0
    left j lj = sym (get_or_append_left found (row ∷ []) 0 j lj)

    at : ((x : ℕ) × (i + 1 < length found) × (slice_get found (i + 1) ≡ Some x) × (get_or found (i + 1) x ≡ x)) ⊎ ((length found ≤ i + 1) × (slice_get found (i + 1) ≡ None))
        → i + 1 < length found + 1 → get_or all i 0 < get_or all (i + 1) 0
    at (inl (x, more, is, same)) l = subst (λ a. a < get_or all (i + 1) 0) (left i (omega (arith, more))) (subst (λ b. get_or found i 0 < b) (left (i + 1) more) (h i more))
    at (inr (past, is)) l =
        let none : (i + 1) - length found ≡ 0 = omega (arith, past, l) in
        let last : get_or all (i + 1) 0 ≡ row = get_or-append_right found (row ∷ []) (length found) (i + 1) 0 refl (omega (arith, past)) ∙ ap (λ k. get_or (row ∷ []) k 0) none in
        subst (λ b. get_or all i 0 < b) (sym last) (subst (λ a. a < row) (left i (omega (arith, past, l))) (low i 0 (omega (arith, past, l))))

pub lower_more : (found : List ℕ) (row next : ℕ) → All (λ r. r < row) found → row < next → All (λ r. r < next) (found ++ row ∷ [])
lower_more found row next low up =
    let lower : All (λ r. r < next) found = λ k d lt. (let here = low k d lt in omega (arith, here, up)) in
    All-push (λ r. r < next) found row lower up

-- the children of a row, one by one
module _ (f : Forest) (ns : List ℕ) (at : ℕ) (rows : List ℕ) (k : IsShaped f) (are : map (node_in f ns) rows ≡ child_elements f (node_in f ns at)) (rising : AreRising rows) (inside : AreWithin at (length ns) rows) where
  abbrev p : ℕ
  p = node_in f ns at

  abbrev all : List ℕ
  all = child_elements f p

  abbrev node_of : ℕ → ℕ
  node_of i = node_in f ns (get_or rows i 0)

  few : (i : ℕ) → i < length rows → i < length all
  few i lt = let same : length all ≡ length rows = ap length (sym are) ∙ length-map rows (node_in f ns) in omega arith

  here : (i : ℕ) → i < length rows → get_or all i 0 ≡ node_of i
  here i lt = ap (λ l. get_or l i 0) (sym are) ∙ get_or-map (node_in f ns) rows i 0 0 lt

  first_before : (i : ℕ) → i < length rows → before f (node_of i) ≡ take i all
  first_before i lt = those_before f p i (node_of i) k (few i lt) (here i lt)

  rest_behind : (i : ℕ) → i < length rows → behind f (node_of i) ≡ drop (i + 1) all
  rest_behind i lt = those_behind f p i (node_of i) k (few i lt) (here i lt)

  one_before : (i : ℕ) → i < length rows → IsBefore f ns (get_or rows i 0) (entry_before rows i)
  one_before zero lt = first_before zero lt
  one_before (suc i) lt =
      let fewer : i < length rows = omega (arith, lt) in
      let next : i + 1 ≡ suc i = omega arith in
      let low = (inside i 0 fewer).0 in
      let up : get_or rows i 0 < get_or rows (suc i) 0 = subst (λ j. get_or rows i 0 < get_or rows j 0) next (rising i (omega (arith, lt))) in (
        omega (arith, low),
        up,
        first_before (suc i) lt
            ∙ ap (λ j. take j all) (sym next)
            ∙ take_more all i 0 (few i fewer)
            ∙ ap (λ l. l ++ get_or all i 0 ∷ []) (sym (first_before i fewer))
            ∙ ap (λ m. before f (node_of i) ++ m ∷ []) (here i fewer),
      )

  one_behind : (i : ℕ) → i < length rows → IsBehind f ns (get_or rows i 0) (entry_behind rows i)
  one_behind i lt = elim (slice_get_cases rows (i + 1)).1 as (λ _. IsBehind f ns (get_or rows i 0) (entry_behind rows i)) [
    | inl (r, more, is, same) ↦
        let there : get_or rows (i + 1) 0 ≡ r = (let w = sym (slice_get-get_or rows (i + 1) 0 more) ∙ is in cc) in
        subst (IsBehind f ns (get_or rows i 0)) (sym is) (
          (subst (λ x. get_or rows i 0 < x) there (rising i more)),
          (subst (λ x. x < length ns) there (inside (i + 1) 0 more).1),
          rest_behind i lt
              ∙ drop_more all (i + 1) 0 (few (i + 1) more)
              ∙ ap (λ l. get_or all (i + 1) 0 ∷ l) (sym (rest_behind (i + 1) more))
              ∙ ap (λ m. m ∷ behind f (node_of (i + 1))) (here (i + 1) more)
              ∙ ap (λ x. node_in f ns x ∷ behind f (node_in f ns x)) there,
        )
    | inr (past, is) ↦
        let same : length all ≡ length rows = ap length (sym are) ∙ length-map rows (node_in f ns) in
        subst (IsBehind f ns (get_or rows i 0)) (sym is) (rest_behind i lt ∙ drop_of_length-le all (omega (arith, past, same)))
  ]

  pub child_rows : AreChildRows f ns at rows
  child_rows i lt = record {
    earlier = (inside i 0 lt).0;
    parent_is = its_parent f p i (node_of i) k (few i lt) (here i lt);
    previous_is = one_before i lt;
    next_is = one_behind i lt;
  }

  pub children_known : AreElementsOrLeaves f (children_of f p) → AreBelow f ns at (slice_get rows 0)
  children_known bare = record { first_is = first (slice_get_cases rows 0).1; below_are = below_children f p k bare }
    where
      first : ((x : ℕ) × (0 < length rows) × (slice_get rows 0 ≡ Some x) × (get_or rows 0 x ≡ x)) ⊎ ((length rows ≤ 0) × (slice_get rows 0 ≡ None)) → IsFirst f ns at (slice_get rows 0)
      first (inl (c, some, is, same)) =
          let there : get_or rows 0 0 ≡ c = (let w = sym (slice_get-get_or rows 0 0 some) ∙ is in cc) in
          subst (IsFirst f ns at) (sym is) (
            subst (λ x. at < x) there (inside 0 0 some).0,
            subst (λ x. x < length ns) there (inside 0 0 some).1,
            drop_more all 0 0 (few 0 some)
                ∙ ap (λ l. get_or all 0 0 ∷ l) (sym (rest_behind 0 some))
                ∙ ap (λ m. m ∷ behind f (node_of 0)) (here 0 some)
                ∙ ap (λ x. node_in f ns x ∷ behind f (node_in f ns x)) there,
          )
      first (inr (past, is)) =
          let same : length all ≡ length rows = ap length (sym are) ∙ length-map rows (node_in f ns) in
          let few : length all ≤ 0 = omega (arith, past, same) in
          let none : drop 0 all ≡ [] = drop_of_length-le all {i = 0} few in
          subst (IsFirst f ns at) (sym is) none
