-- The ends of tags, comments and doctypes.
use Rattle.std.proofs.lemmas.Bool.{eqb-true}
use Rattle.std.proofs.Common.{◌≡◌, ℕ, zero, suc, ◌<◌, ◌+◌, ◌&&◌, Bool, true, false, List, [], ◌∷◌, ◌++◌, eqb, length, get_or, refl, ap, arith}
use Rattle.h5_plain_tokenizer.specs.Tokens.{last_is, is_dashes, without_dashes}

pub last_byte : (byte : ℕ) (xs : List ℕ) (n : ℕ) → n + 1 ≡ length xs → eqb (get_or xs n 0) byte ≡ last_is byte xs
last_byte byte [] n e = absurd (omega arith)
last_byte byte (x ∷ []) zero e = refl
last_byte byte (x ∷ []) (suc n) e = absurd (omega arith)
last_byte byte (x ∷ y ∷ xs) zero e = absurd (omega arith)
last_byte byte (x ∷ y ∷ xs) (suc n) e = last_byte byte (y ∷ xs) n (omega arith)

not_dashes : (x : ℕ) (xs rest : List ℕ) → 0 < length xs → xs ≡ rest ++ 45 ∷ 45 ∷ [] → is_dashes (x ∷ xs) ≡ false
not_dashes x xs [] some e = ap (λ l. is_dashes (x ∷ l)) e
not_dashes x xs (y ∷ []) some e = ap (λ l. is_dashes (x ∷ l)) e
not_dashes x xs (y ∷ z ∷ rest) some e = ap (λ l. is_dashes (x ∷ l)) e

pub without_them : (xs : List ℕ) → without_dashes (xs ++ 45 ∷ 45 ∷ []) ≡ xs
without_them [] = refl
without_them (x ∷ xs) = rw (not_dashes x (xs ++ 45 ∷ 45 ∷ []) xs (some xs) refl) (ap (λ l. x ∷ l) (without_them xs))
  where
    some : (ys : List ℕ) → 0 < length (ys ++ 45 ∷ 45 ∷ [])
    some [] = omega arith
    some (y ∷ ys) = omega arith

two_dashes : (x y : ℕ) (a b : Bool) → eqb x 45 ≡ a → eqb y 45 ≡ b → (x ∷ y ∷ [] ≡ 45 ∷ 45 ∷ [] → ⊥) → (a && b) ≡ false
two_dashes x y true true e f h = absurd (h (λ i. eqb-true x 45 e i ∷ eqb-true y 45 f i ∷ []))
two_dashes x y true false e f h = refl
two_dashes x y false b e f h = refl

no_dashes : (x : ℕ) (xs : List ℕ) → ((front : List ℕ) → x ∷ xs ≡ front ++ 45 ∷ 45 ∷ [] → ⊥) → is_dashes (x ∷ xs) ≡ false
no_dashes x [] h = refl
no_dashes x (y ∷ []) h = two_dashes x y (eqb x 45) (eqb y 45) refl refl (h [])
no_dashes x (y ∷ z ∷ xs) h = refl

pub nothing_gone : (xs : List ℕ) → ((front : List ℕ) → xs ≡ front ++ 45 ∷ 45 ∷ [] → ⊥) → without_dashes xs ≡ xs
nothing_gone [] h = refl
nothing_gone (x ∷ xs) h = rw (no_dashes x xs h) (ap (λ l. x ∷ l) (nothing_gone xs (λ front e. h (x ∷ front) (ap (λ l. x ∷ l) e))))
