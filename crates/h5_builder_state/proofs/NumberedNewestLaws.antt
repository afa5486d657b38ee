-- What follows if the newest value of a number is at a place.
use Rattle.std.proofs.Common.{◌≡◌, ◌+◌, ◌<◌, ◌≤◌, ℕ, get_or, List, [], ◌∷◌, ◌++◌, length, reverse, ap, sym, subst, ◌∙◌, inl, inr, arith}
use Rattle.std.proofs.lemmas.Bool.{cases_eq, cases_lt}
use Rattle.std.proofs.lemmas.List.{get_or_append_left, get_or_at, length-reverse, reverse-append}
use Rattle.h5_builder_state.specs.Numbered.{newest_of}
use Rattle.h5_builder_state.proofs.PlaceLaws.{newest_here, newest_le, newest_other}

reverse_cons : (m : ℕ) (older : List ℕ) → reverse (m ∷ older) ≡ reverse older ++ m ∷ []
reverse_cons m older = reverse-append (m ∷ []) older

newest_same_number : (n m : ℕ) (older : List ℕ) → m ≡ n → newest_of n (m ∷ older) ≡ length older + 1
newest_same_number n m older e = subst (λ z. newest_of n (z ∷ older) ≡ length older + 1) (sym e) (newest_here n older)

-- the last of some, and one that is older
at_last : (m k : ℕ) (older : List ℕ) → length older ≡ k → get_or (reverse (m ∷ older)) k 0 ≡ m
at_last m k older h = ap (λ s. get_or s k 0) (reverse_cons m older) ∙ get_or_at (reverse older) m [] 0 k (length-reverse older ∙ h)

at_older : (m k : ℕ) (older : List ℕ) → k < length older → get_or (reverse (m ∷ older)) k 0 ≡ get_or (reverse older) k 0
at_older m k older h = ap (λ s. get_or s k 0) (reverse_cons m older) ∙ get_or_append_left (reverse older) (m ∷ []) 0 k (omega (arith, h, length-reverse older))

-- there is that number
pub newest_at : (n k : ℕ) (older : List ℕ) → newest_of n older ≡ k + 1 → get_or (reverse older) k 0 ≡ n
newest_at n k [] e = absurd (omega (arith, e))
newest_at n k (m ∷ older) e = elim (cases_eq m n) [
  | inl s ↦ (let h = newest_same_number n m older s in let there : length older ≡ k = omega (arith, h, e) in at_last m k older there ∙ s)
  | inr d ↦ (let f : newest_of n older ≡ k + 1 = sym (newest_other n m older d) ∙ e in at_older m k older (omega (arith, f, newest_le n older)) ∙ newest_at n k older f)
]

-- and it is nowhere above
pub none_above : (n k : ℕ) (older : List ℕ) → newest_of n older ≤ k → k < length older → get_or (reverse older) k 0 ≡ n → ⊥
none_above n k [] h l e = absurd (omega (arith, l))
none_above n k (m ∷ older) h l e = elim (cases_eq m n) [
  | inl s ↦ (let f = newest_same_number n m older s in absurd (omega (arith, f, h, l)))
  | inr d ↦ (let f = newest_other n m older d in elim (cases_lt k (length older)) [
    | inl i ↦ none_above n k older (omega (arith, f, h)) i (sym (at_older m k older i) ∙ e)
    | inr o ↦ (let there : length older ≡ k = omega (arith, l, o) in d (sym (at_last m k older there) ∙ e))
  ])
]
