-- Links and tables of places when the number at a place is replaced.
use Rattle.std.proofs.Common.{◌≡◌, ◌+◌, ◌-◌, ◌<◌, ◌≤◌, ◌⊎◌, ℕ, zero, suc, get_or, set, take, List, length, reverse, refl, ap, sym, subst, ◌∙◌, inl, inr, arith, Option, Some, None}
use Rattle.std.proofs.lemmas.Bool.{cases_eq, cases_lt}
use Rattle.std.proofs.lemmas.List.{get_or-set_other, get_or-set_same, get_or-take, length-reverse, length-set, length-take-le, reverse-reverse, take-set-le, take_all}
use Rattle.std.proofs.lemmas.List.Elements.{All-get_or, All-set, All-weaker}
use Rattle.h5_builder_state.specs.Numbered.{newest_of}
use Rattle.h5_builder_state.specs.Places.{IsLinked, IsPlaced}
use Rattle.h5_builder_state.specs.Replacing.{IsNextAt, IsNextNewer, links_with, older_by, table_with}
use Rattle.h5_builder_state.proofs.NumberedNewestLaws.{none_above}
use Rattle.h5_builder_state.proofs.PlaceLaws.{newest_le, newest_more, newest_same}

-- the newest value of a number among the k oldest values
abbrev pub newest_below : List ℕ → ℕ → ℕ → ℕ
newest_below ns n k = newest_of n (reverse (take k ns))

pub newest_below_le : (ns : List ℕ) (n k : ℕ) → k ≤ length ns → newest_below ns n k ≤ k
newest_below_le ns n k h = omega (arith, newest_le n (reverse (take k ns)), length-reverse (take k ns), length-take-le k ns h)

-- if the number is at place j, the newest one isn't older
newest_ge : (ns : List ℕ) (n j k : ℕ) → j < k → k ≤ length ns → get_or ns j 0 ≡ n → j < newest_below ns n k
newest_ge ns n j k h l e = elim (cases_lt j (newest_below ns n k)) [
  | inl i ↦ i
  | inr o ↦ absurd (none_above n j (reverse (take k ns)) o (omega (arith, h, length-reverse (take k ns), length-take-le k ns l))
      (ap (λ s. get_or s j 0) (reverse-reverse (take k ns)) ∙ get_or-take k ns j 0 h ∙ e))
]

-- what another number at a place changes of the newest below another place, above it: nothing where a newer value stands
-- between, and else the newest up to the place counts
abbrev Changed : List ℕ → ℕ → ℕ → ℕ → ℕ → Type 0
Changed ns p y n k =
    ((p + 1 < newest_below ns n k) × (newest_below (set ns p y) n k ≡ newest_below ns n k))
    ⊎ ((newest_below ns n k ≡ newest_below ns n (p + 1)) × (newest_below (set ns p y) n k ≡ newest_below (set ns p y) n (p + 1)))

changed_by : (ns : List ℕ) (p y n m : ℕ) → p + 1 + m ≤ length ns → Changed ns p y n (p + 1 + m)
changed_by ns p y n zero h = let none : p + 1 + zero ≡ p + 1 = omega arith in subst (Changed ns p y n) (sym none) (inr (refl, refl))
changed_by ns p y n (suc m) h =
    let k = p + 1 + m in
    let next : p + 1 + suc m ≡ k + 1 = omega arith in
    let os = set ns p y in
    let l : k < length ns = omega (arith, h) in
    let inner : k < length os = omega (arith, h, length-set ns p y) in
    let at : get_or os k 0 ≡ get_or ns k 0 = get_or-set_other ns p k y 0 (λ e. absurd (omega (arith, e))) in
    subst (Changed ns p y n) (sym next) (elim (cases_eq n (get_or ns k 0)) [
      | inl e ↦ (let one : newest_below ns n (k + 1) ≡ k + 1 = subst (λ z. newest_below ns z (k + 1) ≡ k + 1) (sym e) (newest_more ns k l) in
          let other : newest_below os n (k + 1) ≡ k + 1 = subst (λ z. newest_below os z (k + 1) ≡ k + 1) (at ∙ sym e) (newest_more os k inner) in
          inl (omega (arith, one), other ∙ sym one))
      | inr d ↦ (let one = newest_same ns k n l d in
          let other = newest_same os k n inner (λ e. d (e ∙ at)) in
          elim (changed_by ns p y n m (omega (arith, h))) [
            | inl b ↦ inl (omega (arith, one, b.0), other ∙ b.1 ∙ sym one)
            | inr b ↦ inr (one ∙ b.0, other ∙ b.1)
          ])
    ])

changed : (ns : List ℕ) (p y n k : ℕ) → p < k → k ≤ length ns → Changed ns p y n k
changed ns p y n k h l =
    let above : k ≡ p + 1 + (k - (p + 1)) = omega (arith, h) in
    subst (Changed ns p y n) (sym above) (changed_by ns p y n (k - (p + 1)) (omega (arith, h, l)))

-- up to the place
newest_there : (ns : List ℕ) (p y : ℕ) → p < length ns → newest_below (set ns p y) y (p + 1) ≡ p + 1
newest_there ns p y h =
    subst (λ z. newest_below (set ns p y) z (p + 1) ≡ p + 1) (get_or-set_same ns p y 0 h) (newest_more (set ns p y) p (omega (arith, h, length-set ns p y)))

newest_else : (ns : List ℕ) (p y n : ℕ) → p < length ns → (n ≡ y → ⊥) → newest_below (set ns p y) n (p + 1) ≡ newest_below ns n p
newest_else ns p y n h d =
    newest_same (set ns p y) p n (omega (arith, h, length-set ns p y)) (λ e. d (e ∙ get_or-set_same ns p y 0 h)) ∙ ap (λ s. newest_of n (reverse s)) (take-set-le p ns p y (omega arith))

-- the next newer value of a number is the one whose link isn't above the place
is_next : (ns : List ℕ) (p n k : ℕ) (next : Option ℕ) → IsNextNewer n p ns next → p < k → k < length ns → get_or ns k 0 ≡ n → newest_below ns n k ≤ p + 1 → next ≡ Some k
is_next ns p n k None x h l e f =
    absurd (omega (arith, h, newest_ge ns n k (length ns) l (omega arith) e, ap (λ s. newest_of n (reverse s)) (take_all (length ns) ns (omega arith)), x))
is_next ns p n k (Some j) x h l e f = elim (cases_lt k j) [
  | inl i ↦ absurd (omega (arith, h, newest_ge ns n k j i (omega (arith, x.inside)) e, x.first))
  | inr o ↦ elim (cases_lt j k) [
    | inl i ↦ absurd (omega (arith, x.above, newest_ge ns n j k i (omega (arith, l)) x.here, f))
    | inr u ↦ ap Some (omega (arith, o, u))
  ]
]

-- and of its number
next_number : (ns : List ℕ) (p n k : ℕ) (next : Option ℕ) → IsNextNewer n p ns next → next ≡ Some k → IsNextAt n p ns k
next_number ns p n k next x e = subst (λ o. IsNextNewer n p ns o) e x

-- if there is none, the newest of all isn't above the place
no_next : (ns : List ℕ) (p n : ℕ) (next : Option ℕ) → p < length ns → IsNextNewer n p ns next → newest_below ns n (length ns) ≤ p + 1 → next ≡ None
no_next ns p n None h x f = refl
no_next ns p n (Some j) h x f = absurd (omega (arith, x.above, newest_ge ns n j (length ns) x.inside (omega arith) x.here, f))

none_newest : (ns : List ℕ) (p n : ℕ) (next : Option ℕ) → IsNextNewer n p ns next → next ≡ None → newest_below ns n (length ns) ≤ p + 1
none_newest ns p n next x e =
    let y : newest_of n (reverse ns) ≤ p + 1 = subst (λ o. IsNextNewer n p ns o) e x in
    omega (arith, y, ap (λ s. newest_of n (reverse s)) (take_all (length ns) ns (omega arith)))

-- what is changed, and what isn't
links_other : (next : Option ℕ) (older k : ℕ) (links : List ℕ) → (next ≡ Some k → ⊥) → get_or (links_with next older links) k 0 ≡ get_or links k 0
links_other None older k links d = refl
links_other (Some j) older k links d = get_or-set_other links j k older 0 (λ e. d (ap Some (sym e)))

links_here : (next : Option ℕ) (older k : ℕ) (links : List ℕ) → k < length links → next ≡ Some k → get_or (links_with next older links) k 0 ≡ older
links_here next older k links h e = ap (λ o. get_or (links_with o older links) k 0) e ∙ get_or-set_same links k older 0 h

pub length-links_with : (next : Option ℕ) (older : ℕ) (links : List ℕ) → length (links_with next older links) ≡ length links
length-links_with None older links = refl
length-links_with (Some j) older links = length-set links j older

pub length-table_with : (next : Option ℕ) (number older : ℕ) (table : List ℕ) → length (table_with next number older table) ≡ length table
length-table_with None number older table = length-set table number older
length-table_with (Some j) number older table = refl

table_other : (next : Option ℕ) (number older n : ℕ) (table : List ℕ) → (n ≡ number → ⊥) → get_or (table_with next number older table) n 0 ≡ get_or table n 0
table_other None number older n table d = get_or-set_other table number n older 0 d
table_other (Some j) number older n table d = refl

table_still : (next : Option ℕ) (number older n : ℕ) (table : List ℕ) → (next ≡ None → ⊥) → get_or (table_with next number older table) n 0 ≡ get_or table n 0
table_still None number older n table d = absurd (d refl)
table_still (Some j) number older n table d = refl

table_here : (next : Option ℕ) (number older : ℕ) (table : List ℕ) → number < length table → next ≡ None → get_or (table_with next number older table) number 0 ≡ older
table_here next number older table h e = ap (λ o. get_or (table_with o number older table) number 0) e ∙ get_or-set_same table number older 0 h

-- if no value of a number stands between, the newest below is that below the place, if the place has another number
below : (ns : List ℕ) (p n k : ℕ) → p < k → k ≤ length ns → newest_below ns n k ≤ p + 1 → (n ≡ get_or ns p 0 → ⊥) → newest_below ns n k ≡ newest_below ns n p
below ns p n k h l f d = elim (changed ns p (get_or ns p 0) n k h l) [
  | inl b ↦ absurd (omega (arith, b.0, f))
  | inr b ↦ b.0 ∙ newest_same ns p n (omega (arith, h, l)) d
]

-- the newest below the next newer one is that below the place, if the place has another number
pub older_right : (ns links table : List ℕ) (p n : ℕ) (next : Option ℕ) → p < length ns → (n ≡ get_or ns p 0 → ⊥) → IsLinked ns links table (length ns) → IsNextNewer n p ns next
    → older_by next n links table ≡ newest_below ns n p
older_right ns links table p n None h d x y = x.tabled n ∙ below ns p n (length ns) h (omega arith) (none_newest ns p n None y refl) d
older_right ns links table p n (Some j) h d x y =
    x.linked j y.inside ∙ ap (λ m. newest_below ns m j) y.here ∙ below ns p n j y.above (omega (arith, y.inside)) y.first d

-- all of it, where the place gets another number
module _ (ns links table : List ℕ) (p y : ℕ) (above_former above : Option ℕ) where
  abbrev former : ℕ
  former = get_or ns p 0

  abbrev links_then : List ℕ
  links_then = links_with above (p + 1) (links_with above_former (get_or links p 0) links)

  abbrev table_then : List ℕ
  table_then = table_with above y (p + 1) (table_with above_former former (get_or links p 0) table)

  linked_replaced : p < length ns → length links ≡ length ns → (y ≡ former → ⊥) → former < length table → y < length table → IsLinked ns links table (length ns)
      → IsNextNewer former p ns above_former → IsNextNewer y p ns above
      → IsLinked (set ns p y) (set links_then p (older_by above y links table)) table_then (length ns)
  linked_replaced h same d r s x f g = record {
    linked = λ k l. elim (cases_lt k p) [
      | inl i ↦ under k l i
      | inr o ↦ elim (cases_eq k p) [ inl e ↦ subst (λ z. get_or news z 0 ≡ newest_below os (get_or os z 0) z) (sym e) there | inr u ↦ over k l (omega (arith, o, u)) ]
    ];
    tabled = tabled;
  }
    where
      os : List ℕ
      os = set ns p y

      news : List ℕ
      news = set links_then p (older_by above y links table)

      count : length links_then ≡ length ns
      count = length-links_with above (p + 1) (links_with above_former (get_or links p 0) links) ∙ length-links_with above_former (get_or links p 0) links ∙ same

      -- a place that is next for neither
      still : (k : ℕ) → (k ≡ p → ⊥) → (above_former ≡ Some k → ⊥) → (above ≡ Some k → ⊥) → get_or news k 0 ≡ get_or links k 0
      still k u a b =
          get_or-set_other links_then p k (older_by above y links table) 0 u ∙ links_other above (p + 1) k (links_with above_former (get_or links p 0) links) b
          ∙ links_other above_former (get_or links p 0) k links a

      under : (k : ℕ) → k < length ns → k < p → get_or news k 0 ≡ newest_below os (get_or os k 0) k
      under k l i =
          still k (λ e. absurd (omega (arith, i, e))) (λ e. absurd (omega (arith, i, (next_number ns p former k above_former f e).above))) (λ e. absurd (omega (arith, i, (next_number ns p y k above g e).above)))
          ∙ x.linked k l ∙ ap (λ z. newest_below ns z k) (sym (get_or-set_other ns p k y 0 (λ e. absurd (omega (arith, i, e))))) ∙ ap (λ s. newest_of (get_or os k 0) (reverse s)) (sym (take-set-le k ns p y (omega (arith, i))))

      there : get_or news p 0 ≡ newest_below os (get_or os p 0) p
      there =
          get_or-set_same links_then p (older_by above y links table) 0 (omega (arith, h, count)) ∙ older_right ns links table p y above h d x g
          ∙ ap (λ s. newest_of y (reverse s)) (sym (take-set-le p ns p y (omega arith))) ∙ ap (λ z. newest_below os z p) (sym (get_or-set_same ns p y 0 h))

      over : (k : ℕ) → k < length ns → p < k → get_or news k 0 ≡ newest_below os (get_or os k 0) k
      over k l i =
          let n = get_or ns k 0 in
          let u : k ≡ p → ⊥ = λ e. absurd (omega (arith, i, e)) in
          let number : get_or os k 0 ≡ n = get_or-set_other ns p k y 0 u in
          subst (λ z. get_or news k 0 ≡ newest_below os z k) (sym number) (elim (changed ns p y n k i (omega (arith, l))) [
            | inl b ↦ (still k u (λ e. let z = next_number ns p former k above_former f e in absurd (omega (arith, ap (λ m. newest_below ns m k) z.here, z.first, b.0)))
                (λ e. let z = next_number ns p y k above g e in absurd (omega (arith, ap (λ m. newest_below ns m k) z.here, z.first, b.0)))
                ∙ x.linked k l ∙ sym b.1)
            | inr b ↦ (let low : newest_below ns n k ≤ p + 1 = omega (arith, b.0, newest_below_le ns n (p + 1) (omega (arith, h))) in
                elim (cases_eq n y) [
                  | inl e ↦ (let it = is_next ns p y k above g i l e (subst (λ z. newest_below ns z k ≤ p + 1) e low) in
                      get_or-set_other links_then p k (older_by above y links table) 0 u
                      ∙ links_here above (p + 1) k (links_with above_former (get_or links p 0) links) (omega (arith, l, length-links_with above_former (get_or links p 0) links, same)) it
                      ∙ sym (b.1 ∙ ap (λ z. newest_below os z (p + 1)) e ∙ newest_there ns p y h))
                  | inr e ↦ elim (cases_eq n former) [
                    | inl q ↦ (let it = is_next ns p former k above_former f i l q (subst (λ z. newest_below ns z k ≤ p + 1) q low) in
                        get_or-set_other links_then p k (older_by above y links table) 0 u
                        ∙ links_other above (p + 1) k (links_with above_former (get_or links p 0) links) (λ z. e (next_number ns p y k above g z).here)
                        ∙ links_here above_former (get_or links p 0) k links (omega (arith, l, same)) it ∙ x.linked p h
                        ∙ ap (λ z. newest_below ns z p) (sym q) ∙ sym (b.1 ∙ newest_else ns p y n h e))
                    | inr q ↦ (still k u (λ z. q (next_number ns p former k above_former f z).here) (λ z. e (next_number ns p y k above g z).here)
                        ∙ x.linked k l ∙ below ns p n k i (omega (arith, l)) low q ∙ sym (b.1 ∙ newest_else ns p y n h e))
                  ]
                ])
          ])

      between : List ℕ
      between = table_with above_former former (get_or links p 0) table

      tabled : (n : ℕ) → get_or table_then n 0 ≡ newest_below os n (length ns)
      tabled n = elim (changed ns p y n (length ns) h (omega arith)) [
        | inl b ↦ (stays n b ∙ x.tabled n ∙ sym b.1)
        | inr b ↦ (let low : newest_below ns n (length ns) ≤ p + 1 = omega (arith, b.0, newest_below_le ns n (p + 1) (omega (arith, h))) in
            elim (cases_eq n y) [
              | inl e ↦ (let none = no_next ns p y above h g (subst (λ z. newest_below ns z (length ns) ≤ p + 1) e low) in
                  ap (λ z. get_or table_then z 0) e ∙ table_here above y (p + 1) between (omega (arith, s, length-table_with above_former former (get_or links p 0) table)) none
                  ∙ sym (b.1 ∙ ap (λ z. newest_below os z (p + 1)) e ∙ newest_there ns p y h))
              | inr e ↦ (table_other above y (p + 1) n between e ∙ elim (cases_eq n former) [
                | inl q ↦ (let none = no_next ns p former above_former h f (subst (λ z. newest_below ns z (length ns) ≤ p + 1) q low) in
                    ap (λ z. get_or between z 0) q ∙ table_here above_former former (get_or links p 0) table r none ∙ x.linked p h ∙ ap (λ z. newest_below ns z p) (sym q))
                | inr q ↦ (table_other above_former former (get_or links p 0) n table q ∙ x.tabled n ∙ below ns p n (length ns) h (omega arith) low q)
              ] ∙ sym (b.1 ∙ newest_else ns p y n h e))
            ])
      ]
        where
          stays : (n : ℕ) → ((p + 1 < newest_below ns n (length ns)) × (newest_below os n (length ns) ≡ newest_below ns n (length ns))) → get_or table_then n 0 ≡ get_or table n 0
          stays n b = one ∙ other
            where
              one : get_or table_then n 0 ≡ get_or between n 0
              one = elim (cases_eq n y) [
                | inl e ↦ table_still above y (p + 1) n between (λ z. absurd (omega (arith, b.0, ap (λ m. newest_below ns m (length ns)) e, none_newest ns p y above g z)))
                | inr e ↦ table_other above y (p + 1) n between e
              ]

              other : get_or between n 0 ≡ get_or table n 0
              other = elim (cases_eq n former) [
                | inl e ↦ table_still above_former former (get_or links p 0) n table (λ z. absurd (omega (arith, b.0, ap (λ m. newest_below ns m (length ns)) e, none_newest ns p former above_former f z)))
                | inr e ↦ table_other above_former former (get_or links p 0) n table e
              ]

  pub placed_replaced : p < length ns → length links ≡ length ns → (y ≡ former → ⊥) → y < length table → IsPlaced ns links table → IsNextNewer former p ns above_former → IsNextNewer y p ns above
      → (ms ls t : List ℕ) → ms ≡ set ns p y → ls ≡ set links_then p (older_by above y links table) → t ≡ table_then → IsPlaced ms ls t
  placed_replaced h same d s x f g ms ls t e1 e2 e3 =
      let reached = All-get_or (λ n. n < length table) ns p 0 h x.reached in
      let room : length table_then ≡ length table = length-table_with above y (p + 1) (table_with above_former former (get_or links p 0) table) ∙ length-table_with above_former former (get_or links p 0) table in
      subst (λ z. IsPlaced z ls t) (sym e1) (subst (λ z. IsPlaced (set ns p y) z t) (sym e2) (subst (λ z. IsPlaced (set ns p y) (set links_then p (older_by above y links table)) z) (sym e3) (record {
        whole = subst (λ k. IsLinked (set ns p y) (set links_then p (older_by above y links table)) table_then k) (sym (length-set ns p y)) (linked_replaced h same d reached s x.whole f g);
        reached = All-set (λ n. n < length table_then) ns p y (omega (arith, s, room)) (All-weaker (λ n. n < length table) (λ n. n < length table_then) (λ n l. omega (arith, l, room)) ns x.reached);
        small = omega (arith, x.small, length-set ns p y);
      })))
