-- The replacements of the numbers of the C1 controls.
use Rattle.std.proofs.Common.{◌≡◌, ℕ, zero, suc, ◌<◌, ◌==◌, ◌||◌, true, refl, subst, sym, ◌∙◌, List, [], ◌∷◌, get_or, inl, inr, ltb, arith}
use Rattle.std.proofs.lemmas.Bool.{and_parts, cond-false, cond-true, eq-eqb, le-leb, lt-ltb, ltb-true, ne_eqb, and_from, or_left, or_right}
use Rattle.std.specs.Prelude.{if◌then◌else◌, nat_lt}
use Rattle.std.specs.Char.{OutOfScalarRange, encode_utf8}
use Rattle.std.specs.List.{list_all}
use Rattle.h5_tokenizer_spec.specs.Signs.{replacement}
use Rattle.h5_tokenizer_spec.specs.References.{at_or, code_point, is_surrogate, or_itself, replacements}

is_at : (xs : List ℕ) (n : ℕ) → at_or xs n ≡ get_or xs n 0
is_at [] n = refl
is_at (x ∷ xs) zero = refl
is_at (x ∷ xs) (suc n) = is_at xs n

low_at : (xs : List ℕ) (n : ℕ) → list_all (λ x. ltb x 0xd800) xs ≡ true → get_or xs n 0 < 0xd800
low_at [] n h = omega arith
low_at (x ∷ xs) zero h = ltb-true x 0xd800 (and_parts (ltb x 0xd800) (list_all (λ y. ltb y 0xd800) xs) h).0
low_at (x ∷ xs) (suc n) h = low_at xs n (and_parts (ltb x 0xd800) (list_all (λ y. ltb y 0xd800) xs) h).1

-- 0 means that there is none
pub kept : (code n : ℕ) → get_or replacements n 0 ≡ 0 → code ≡ or_itself code (at_or replacements n)
kept code n h = sym (cond-true (at_or replacements n == 0) code (at_or replacements n) (eq-eqb (at_or replacements n) 0 (is_at replacements n ∙ h)))

pub changed : (code n : ℕ) → (get_or replacements n 0 ≡ 0 → ⊥) → get_or replacements n 0 ≡ or_itself code (at_or replacements n)
changed code n h =
    sym (cond-false (at_or replacements n == 0) code (at_or replacements n) (ne_eqb (at_or replacements n) 0 (λ e. h (sym (is_at replacements n) ∙ e)))
    ∙ is_at replacements n)

-- they aren't surrogates
pub replacement_is_low : (n : ℕ) → get_or replacements n 0 < 0xd800
replacement_is_low n = low_at replacements n refl

no_scalar : (code : ℕ) → OutOfScalarRange code → (nat_lt 0x10ffff code || is_surrogate code) ≡ true
no_scalar code (inl range) = or_right (nat_lt 0x10ffff code) (is_surrogate code) (and_from _ _ (le-leb 0xd800 code range.0) (le-leb code 0xdfff range.1))
no_scalar code (inr high) = or_left (nat_lt 0x10ffff code) (is_surrogate code) (lt-ltb 0x10ffff code (omega arith))

-- the replacement of a number that isn't a character
pub unknown : (code : ℕ) → OutOfScalarRange code → encode_utf8 0xfffd ≡ (if nat_lt 0x10ffff code || is_surrogate code then replacement else encode_utf8 code)
unfolding encode_utf8
unknown code h = sym (cond-true (nat_lt 0x10ffff code || is_surrogate code) replacement (encode_utf8 code) (no_scalar code h))

pub at_null : (code : ℕ) → code ≡ 0 → encode_utf8 0xfffd ≡ code_point code
unfolding encode_utf8
at_null code h = subst (λ z. encode_utf8 0xfffd ≡ code_point z) (sym h) refl
