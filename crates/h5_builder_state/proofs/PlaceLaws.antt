-- Links and tables of places, one value more or less.
use Rattle.std.proofs.Common.{◌≡◌, ◌+◌, ◌-◌, ◌<◌, ◌≤◌, ◌⊎◌, ℕ, zero, suc, get_or, set, take, replicate, cond, List, [], ◌∷◌, ◌++◌, length, reverse, refl, ap, sym, subst, ◌∙◌, inl, inr, arith}
use Rattle.std.proofs.lemmas.Bool.{cases_eq, cases_lt, eq-eqb, ne_eqb}
use Rattle.std.proofs.lemmas.List.{get_or-set_other, get_or-set_same, get_or-take, get_or_append_left, get_or-append_right, get_or_past, length-reverse, length-take-le, reverse-append, take-take, take_all, take_more}
use Rattle.h5_builder_state.specs.Numbered.{newest_of}
use Rattle.h5_builder_state.specs.Places.{IsLinked}

pub newest_here : (n : ℕ) (older : List ℕ) → newest_of n (n ∷ older) ≡ length older + 1
newest_here n older = ap (λ b. cond b (length older + 1) (newest_of n older)) (eq-eqb n n refl)

pub newest_other : (n m : ℕ) (older : List ℕ) → (m ≡ n → ⊥) → newest_of n (m ∷ older) ≡ newest_of n older
newest_other n m older h = ap (λ b. cond b (length older + 1) (newest_of n older)) (ne_eqb m n h)

pub newest_le : (n : ℕ) (older : List ℕ) → newest_of n older ≤ length older
newest_le n [] = omega arith
newest_le n (m ∷ older) = elim (cases_eq m n) [
  | inl e ↦ (let k = newest_here n older in let h : newest_of n (m ∷ older) ≡ length older + 1 = subst (λ z. newest_of n (z ∷ older) ≡ length older + 1) (sym e) k in omega arith)
  | inr d ↦ (let h = newest_other n m older d in let l = newest_le n older in omega arith)
]

-- the k oldest values, and one more
seen_more : (ns : List ℕ) (k : ℕ) → k < length ns → reverse (take (k + 1) ns) ≡ get_or ns k 0 ∷ reverse (take k ns)
seen_more ns k h = ap reverse (take_more ns k 0 h) ∙ reverse-append (take k ns) (get_or ns k 0 ∷ [])

length-seen : (ns : List ℕ) (k : ℕ) → k ≤ length ns → length (reverse (take k ns)) ≡ k
length-seen ns k h = length-reverse (take k ns) ∙ length-take-le k ns h

pub newest_more : (ns : List ℕ) (k : ℕ) → k < length ns → newest_of (get_or ns k 0) (reverse (take (k + 1) ns)) ≡ k + 1
newest_more ns k h =
    ap (newest_of (get_or ns k 0)) (seen_more ns k h) ∙ newest_here (get_or ns k 0) (reverse (take k ns)) ∙ ap (λ z. z + 1) (length-seen ns k (omega arith))

pub newest_same : (ns : List ℕ) (k n : ℕ) → k < length ns → (n ≡ get_or ns k 0 → ⊥) → newest_of n (reverse (take (k + 1) ns)) ≡ newest_of n (reverse (take k ns))
newest_same ns k n h d = ap (newest_of n) (seen_more ns k h) ∙ newest_other n (get_or ns k 0) (reverse (take k ns)) (λ e. d (sym e))

-- the table has an entry for the newest number
pub reached_newest : (ns links table : List ℕ) (k : ℕ) → k < length ns → IsLinked ns links table (k + 1) → get_or ns k 0 < length table
reached_newest ns links table k h x =
    let m = get_or ns k 0 in
    elim (cases_reached m table) [
      | inl l ↦ l
      | inr p ↦ absurd (omega (arith, x.tabled m ∙ newest_more ns k h, p))
    ]
  where
    cases_reached : (m : ℕ) (t : List ℕ) → (m < length t) ⊎ (get_or t m 0 ≡ 0)
    cases_reached m t = elim (cases_lt m (length t)) [ inl l ↦ inl l | inr p ↦ inr (get_or_past t m 0 p) ]

-- the newest value is taken from the table
pub linked_less : (ns links table : List ℕ) (k : ℕ) → k < length ns → IsLinked ns links table (k + 1) → IsLinked ns links (set table (get_or ns k 0) (get_or links k 0)) k
linked_less ns links table k h x = record {
  linked = λ i l. x.linked i (omega arith);
  tabled = λ n. elim (cases_eq n (get_or ns k 0)) [
    | inl e ↦ subst (λ z. get_or (set table (get_or ns k 0) (get_or links k 0)) z 0 ≡ newest_of z (reverse (take k ns))) (sym e) here
    | inr d ↦ get_or-set_other table (get_or ns k 0) n (get_or links k 0) 0 d ∙ x.tabled n ∙ newest_same ns k n h d
  ];
}
  where
    here : get_or (set table (get_or ns k 0) (get_or links k 0)) (get_or ns k 0) 0 ≡ newest_of (get_or ns k 0) (reverse (take k ns))
    here = get_or-set_same table (get_or ns k 0) (get_or links k 0) 0 (reached_newest ns links table k h x) ∙ x.linked k (omega arith)

-- a value whose link is right is put into it
pub linked_more : (ns links table : List ℕ) (k : ℕ) → k < length ns → get_or ns k 0 < length table → get_or links k 0 ≡ get_or table (get_or ns k 0) 0
    → IsLinked ns links table k → IsLinked ns links (set table (get_or ns k 0) (k + 1)) (k + 1)
linked_more ns links table k h r e x = record {
  linked = λ i l. elim (cases_eq i k) [
    | inl same ↦ subst (λ z. get_or links z 0 ≡ newest_of (get_or ns z 0) (reverse (take z ns))) (sym same) (e ∙ x.tabled (get_or ns k 0))
    | inr d ↦ x.linked i (omega arith)
  ];
  tabled = λ n. elim (cases_eq n (get_or ns k 0)) [
    | inl same ↦ subst (λ z. get_or (set table (get_or ns k 0) (k + 1)) z 0 ≡ newest_of z (reverse (take (k + 1) ns))) (sym same) (get_or-set_same table (get_or ns k 0) (k + 1) 0 r ∙ sym (newest_more ns k h))
    | inr d ↦ get_or-set_other table (get_or ns k 0) n (k + 1) 0 d ∙ x.tabled n ∙ sym (newest_same ns k n h d)
  ];
}

-- only the `count` oldest values matter
pub linked_same : (count : ℕ) (ns os links ms table : List ℕ) → take count ns ≡ take count os → take count links ≡ take count ms → IsLinked ns links table count → IsLinked os ms table count
linked_same count ns os links ms table e f x = record {
  linked = λ k l. sym (at k l links ms f) ∙ x.linked k l ∙ ap (λ z. newest_of z (reverse (take k ns))) (at k l ns os e) ∙ ap (λ s. newest_of (get_or os k 0) (reverse s)) (under k l);
  tabled = λ n. x.tabled n ∙ ap (λ s. newest_of n (reverse s)) e;
}
  where
    at : (k : ℕ) → k < count → (xs ys : List ℕ) → take count xs ≡ take count ys → get_or xs k 0 ≡ get_or ys k 0
    at k l xs ys g = sym (get_or-take count xs k 0 l) ∙ ap (λ s. get_or s k 0) g ∙ get_or-take count ys k 0 l

    under : (k : ℕ) → k < count → take k ns ≡ take k os
    under k l = sym (take-take k count ns (omega arith)) ∙ ap (take k) e ∙ take-take k count os (omega arith)

-- another table that says the same
pub linked_table : (ns links t u : List ℕ) (count : ℕ) → ((n : ℕ) → get_or u n 0 ≡ get_or t n 0) → IsLinked ns links t count → IsLinked ns links u count
linked_table ns links t u count e x = record { linked = x.linked; tabled = λ n. e n ∙ x.tabled n }

-- none is linked in an empty table
pub linked_none : (ns links : List ℕ) → IsLinked ns links [] 0
linked_none ns links = record { linked = λ k l. absurd (omega arith); tabled = λ n. refl }

-- a table with more entries, which say that there is none
same_all : (n k z : ℕ) → get_or (replicate n z) k z ≡ z
same_all zero k z = refl
same_all (suc n) zero z = refl
same_all (suc n) (suc k) z = same_all n k z

pub grown : (t u : List ℕ) (n m : ℕ) → length t ≤ n → u ≡ take n t ++ replicate m 0 → (k : ℕ) → get_or u k 0 ≡ get_or t k 0
grown t u n m h e k = ap (λ s. get_or s k 0) e ∙ ap (λ s. get_or (s ++ replicate m 0) k 0) (take_all n t h) ∙ elim (cases_lt k (length t)) [
  | inl l ↦ get_or_append_left t (replicate m 0) 0 k l
  | inr p ↦ get_or-append_right t (replicate m 0) (length t) k 0 refl p ∙ same_all m (k - length t) 0 ∙ sym (get_or_past t k 0 p)
]
