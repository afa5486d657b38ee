-- Two members of a list, one before the other.
use Rattle.std.proofs.Common.{◌≡◌, ℕ, ◌⊎◌, inl, inr, Bool, true, false, cond, List, [], ◌∷◌, ◌++◌, refl}
use Rattle.std.specs.Prelude.{◌==◌}
use Rattle.std.proofs.lemmas.Bool.{eqb-true, eqb-false, ne_eqb}
use Rattle.h5_builder_spec.specs.stack.Order.{Before, Distinct, IsIn, is_in}

pub in_left : (x : ℕ) (l r : List ℕ) → IsIn x l → IsIn x (l ++ r)
in_left x [] r h = absurd h
in_left x (n ∷ l) r (inl e) = inl e
in_left x (n ∷ l) r (inr h) = inr (in_left x l r h)

pub in_right : (x : ℕ) (l r : List ℕ) → IsIn x r → IsIn x (l ++ r)
in_right x [] r h = h
in_right x (n ∷ l) r h = inr (in_right x l r h)

pub in_split : (x : ℕ) (l r : List ℕ) → IsIn x (l ++ r) → IsIn x l ⊎ IsIn x r
in_split x [] r h = inr h
in_split x (n ∷ l) r (inl e) = inl (inl e)
in_split x (n ∷ l) r (inr h) = elim (in_split x l r h) [ inl k ↦ inl (inr k) | inr k ↦ inr k ]

pub before_across : (x y : ℕ) (l r : List ℕ) → IsIn x l → IsIn y r → Before (l ++ r) x y
before_across x y [] r h k = absurd h
before_across x y (n ∷ l) r (inl e) k = inl (e, in_right y l r k)
before_across x y (n ∷ l) r (inr h) k = inr (before_across x y l r h k)

pub before_left : (x y : ℕ) (l r : List ℕ) → Before l x y → Before (l ++ r) x y
before_left x y [] r h = absurd h
before_left x y (n ∷ l) r (inl h) = inl (h.0, in_left y l r h.1)
before_left x y (n ∷ l) r (inr h) = inr (before_left x y l r h)

pub before_right : (x y : ℕ) (l r : List ℕ) → Before r x y → Before (l ++ r) x y
before_right x y [] r h = h
before_right x y (n ∷ l) r h = inr (before_right x y l r h)

pub before_split : (x y : ℕ) (l r : List ℕ) → Before (l ++ r) x y → Before l x y ⊎ ((IsIn x l × IsIn y r) ⊎ Before r x y)
before_split x y [] r h = inr (inr h)
before_split x y (n ∷ l) r (inl h) = elim (in_split y l r h.1) [ inl k ↦ inl (inl (h.0, k)) | inr k ↦ inr (inl (inl h.0, k)) ]
before_split x y (n ∷ l) r (inr h) =
    elim (before_split x y l r h) [ inl k ↦ inl (inr k) | inr k ↦ elim k [ inl j ↦ inr (inl (inr j.0, j.1)) | inr j ↦ inr (inr j) ] ]

pub before_first : (x y : ℕ) (l : List ℕ) → Before l x y → IsIn x l
before_first x y [] h = absurd h
before_first x y (n ∷ l) (inl h) = inl h.0
before_first x y (n ∷ l) (inr h) = inr (before_first x y l h)

pub before_second : (x y : ℕ) (l : List ℕ) → Before l x y → IsIn y l
before_second x y [] h = absurd h
before_second x y (n ∷ l) (inl h) = inr h.1
before_second x y (n ∷ l) (inr h) = inr (before_second x y l h)

-- a member more
pub in_one_more : (x n : ℕ) (l r : List ℕ) → IsIn x (l ++ r) → IsIn x (l ++ n ∷ r)
in_one_more x n l r h = elim (in_split x l r h) [ inl k ↦ in_left x l (n ∷ r) k | inr k ↦ in_right x l (n ∷ r) (inr k) ]

pub in_one_less : (x n : ℕ) (l r : List ℕ) → IsIn x (l ++ n ∷ r) → (x ≡ n) ⊎ IsIn x (l ++ r)
in_one_less x n l r h = elim (in_split x l (n ∷ r) h) [ inl k ↦ inr (in_left x l r k) | inr k ↦ elim k [ inl e ↦ inl e | inr j ↦ inr (in_right x l r j) ] ]

pub before_one_more : (x y n : ℕ) (l r : List ℕ) → Before (l ++ r) x y → Before (l ++ n ∷ r) x y
before_one_more x y n l r h =
    elim (before_split x y l r h) [ inl k ↦ before_left x y l (n ∷ r) k | inr k ↦ elim k [ inl j ↦ before_across x y l (n ∷ r) j.0 (inr j.1) | inr j ↦ before_right x y l (n ∷ r) (inr j) ] ]

pub before_one_less : (x y n : ℕ) (l r : List ℕ) → Before (l ++ n ∷ r) x y → Before (l ++ r) x y ⊎ (((x ≡ n) × IsIn y r) ⊎ ((y ≡ n) × IsIn x l))
before_one_less x y n l r h =
    elim (before_split x y l (n ∷ r) h) [
      | inl k ↦ inl (before_left x y l r k)
      | inr k ↦ elim k [
        | inl j ↦ elim j.1 [ inl e ↦ inr (inr (e, j.0)) | inr i ↦ inl (before_across x y l r j.0 i) ]
        | inr j ↦ elim j [ inl i ↦ inr (inl i) | inr i ↦ inl (before_right x y l r i) ]
      ]
    ]

pub distinct_apart : (x : ℕ) (l r : List ℕ) → Distinct (l ++ r) → IsIn x l → IsIn x r → ⊥
distinct_apart x l r d i j = d x (before_across x x l r i j)

pub not_beside : (p q : List ℕ) (m : ℕ) → Distinct (p ++ m ∷ q) → IsIn m (p ++ q) → ⊥
not_beside p q m d i = elim (in_split m p q i) [ inl j ↦ d m (before_across m m p (m ∷ q) j (inl refl)) | inr j ↦ d m (before_right m m p (m ∷ q) (inl (refl, j))) ]

-- what is older than m, and newer
pub older : (p q : List ℕ) (m x : ℕ) → Distinct (p ++ m ∷ q) → Before (p ++ m ∷ q) m x → IsIn x q
older p q m x d h =
    elim (before_one_less m x m p q h) [
      | inl j ↦ absurd (not_beside p q m d (before_first m x (p ++ q) j))
      | inr j ↦ elim j [ inl i ↦ i.1 | inr i ↦ absurd (not_beside p q m d (in_left m p q i.1)) ]
    ]

pub newer : (p q : List ℕ) (m x : ℕ) → Distinct (p ++ m ∷ q) → Before (p ++ m ∷ q) x m → IsIn x p
newer p q m x d h =
    elim (before_one_less x m m p q h) [
      | inl j ↦ absurd (not_beside p q m d (before_second x m (p ++ q) j))
      | inr j ↦ elim j [ inl i ↦ absurd (not_beside p q m d (in_right m p q i.1)) | inr i ↦ i.1 ]
    ]

-- the test holds exactly if a list has a number
pub is_in_true : (n : ℕ) (s : List ℕ) → is_in n s ≡ true → IsIn n s
is_in_true n [] h = absurd (cc)
is_in_true n (m ∷ s) h = at (n == m) refl h (λ k. is_in_true n s k)
  where
    at : (b : Bool) → (n == m) ≡ b → cond b true (is_in n s) ≡ true → (is_in n s ≡ true → IsIn n s) → IsIn n (m ∷ s)
    at true e k go = inl (eqb-true n m e)
    at false e k go = inr (go k)

pub is_in_false : (n : ℕ) (s : List ℕ) → ¬ (IsIn n s) → is_in n s ≡ false
is_in_false n [] h = refl
is_in_false n (m ∷ s) h = rw (ne_eqb n m (λ e. h (inl e))) (is_in_false n s (λ i. h (inr i)))

pub is_in_telling : (n : ℕ) (s : List ℕ) → IsIn n s → is_in n s ≡ true
is_in_telling n [] h = absurd h
is_in_telling n (m ∷ s) h = at (n == m) refl h (λ i. is_in_telling n s i)
  where
    at : (b : Bool) → (n == m) ≡ b → IsIn n (m ∷ s) → (IsIn n s → is_in n s ≡ true) → cond (n == m) true (is_in n s) ≡ true
    at true e i go = rw e refl
    at false e (inl i) go = absurd (eqb-false n m e i)
    at false e (inr i) go = rw e (go i)
