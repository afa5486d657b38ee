-- Splits at an index.
use Rattle.std.proofs.Common.{◌≡◌, ℕ, zero, suc, ◌<◌, ◌≤◌, ◌+◌, Bool, true, false, List, [], ◌∷◌, cond, length, take, drop, get_or, refl, sym, ap, ◌∙◌, subst, arith, IsUtf8}
use Rattle.std.proofs.Common.{⊎_elim}
use Rattle.std.proofs.lemmas.Bool.{cases_lt, false≢true}
use Rattle.std.proofs.lemmas.Bool.Decides.{nat_tests}
use Rattle.std.specs.Char.{is_ascii_whitespace}
use Rattle.std.specs.Str.{IsCharBoundary}
use Rattle.std.proofs.lemmas.Str.{IsCharBoundary-before_ascii, IsCharBoundary-after_ascii, IsCharBoundary-end, IsCharBoundary-start}
use Rattle.h5_markup.specs.Cuts.{is_in, before, from, CutsName}
use Rattle.h5_markup.specs.declared.cut.Class.{Class}
use Rattle.h5_markup.specs.declared.cut.Class.TheVariants.{Blank, BetweenAttributes, NameEnd, AttributeNameEnd, ValueEnd, DoubleQuote, SingleQuote}

pub before_take : (stop : ℕ → Bool) (xs : List ℕ) (i : ℕ) → i ≤ length xs → ((k : ℕ) → k < i → stop (get_or xs k 0) ≡ false) → (i < length xs → stop (get_or xs i 0) ≡ true) → before stop xs ≡ take i xs
before_take stop [] zero le h e = refl
before_take stop [] (suc i) le h e = absurd (omega arith)
before_take stop (x ∷ xs) zero le h e = rw (e (omega arith))
before_take stop (x ∷ xs) (suc i) le h e = rw (h 0 (omega arith)) (ap (λ l. x ∷ l) (before_take stop xs i (omega arith) (λ k lt. h (suc k) (omega arith)) (λ lt. e (omega arith))))

pub from_drop : (stop : ℕ → Bool) (xs : List ℕ) (i : ℕ) → i ≤ length xs → ((k : ℕ) → k < i → stop (get_or xs k 0) ≡ false) → (i < length xs → stop (get_or xs i 0) ≡ true) → from stop xs ≡ drop i xs
from_drop stop [] zero le h e = refl
from_drop stop [] (suc i) le h e = absurd (omega arith)
from_drop stop (x ∷ xs) zero le h e = rw (e (omega arith))
from_drop stop (x ∷ xs) (suc i) le h e = rw (h 0 (omega arith)) (from_drop stop xs i (omega arith) (λ k lt. h (suc k) (omega arith)) (λ lt. e (omega arith)))

-- each byte of a class is ASCII
high_by : (x : ℕ) → 128 ≤ x → is_ascii_whitespace x ≡ false
high_by x le = grind (arith, nat_tests)

high : (class : Class) (x : ℕ) → 128 ≤ x → is_in class x ≡ false
high Blank x le = high_by x le
high BetweenAttributes x le = let w = high_by x le in grind (arith, nat_tests)
high NameEnd x le = let w = high_by x le in grind (arith, nat_tests)
high AttributeNameEnd x le = let w = high_by x le in grind (arith, nat_tests)
high ValueEnd x le = let w = high_by x le in grind (arith, nat_tests)
high DoubleQuote x le = grind (arith, nat_tests)
high SingleQuote x le = grind (arith, nat_tests)

ascii : (class : Class) (x : ℕ) → is_in class x ≡ true → x < 128
ascii class x h = ⊎_elim (λ lt. lt) (λ le. absurd (false≢true (sym (high class x le) ∙ h))) (cases_lt x 128)

pub boundary_before : (class : Class) (xs : List ℕ) (i : ℕ) → i ≤ length xs → (i < length xs → is_in class (get_or xs i 0) ≡ true) → IsCharBoundary xs i
boundary_before class xs i le h = ⊎_elim (λ lt. IsCharBoundary-before_ascii xs i lt (ascii class (get_or xs i 0) (h lt))) (λ ge. let e : length xs ≡ i = omega arith in subst (IsCharBoundary xs) e (IsCharBoundary-end xs)) (cases_lt i (length xs))

pub boundary_after : (class : Class) (xs : List ℕ) (i : ℕ) → IsUtf8 xs → i ≤ length xs → ((k : ℕ) → k < i → is_in class (get_or xs k 0) ≡ true) → IsCharBoundary xs i
boundary_after class xs zero utf8 le h = IsCharBoundary-start xs utf8
boundary_after class xs (suc i) utf8 le h = let same : i + 1 ≡ suc i = omega arith in subst (IsCharBoundary xs) same (IsCharBoundary-after_ascii xs i utf8 (omega arith) (ascii class (get_or xs i 0) (h i (omega arith))))

first_by : (class : Class) (x : ℕ) (xs more : List ℕ) (b : Bool) → is_in class x ≡ b → (0 < length more → is_in class (get_or more 0 0) ≡ true) → 0 < length (cond b (x ∷ xs) more) → is_in class (get_or (cond b (x ∷ xs) more) 0 0) ≡ true
first_by class x xs more true e h some = e
first_by class x xs more false e h some = h some

from_first : (class : Class) (xs : List ℕ) → 0 < length (from (is_in class) xs) → is_in class (get_or (from (is_in class) xs) 0 0) ≡ true
from_first class [] some = absurd (omega arith)
from_first class (x ∷ xs) some = first_by class x xs (from (is_in class) xs) (is_in class x) refl (from_first class xs) some

pub boundary_past : (class : Class) (xs back : List ℕ) → IsUtf8 back → back ≡ from (is_in class) xs → 0 < length back → IsCharBoundary back 1
boundary_past class xs back utf8 e some =
    let first : is_in class (get_or back 0 0) ≡ true = ap (λ l. is_in class (get_or l 0 0)) e ∙ from_first class xs (omega (arith, ap length e)) in
    IsCharBoundary-after_ascii back 0 utf8 some (ascii class (get_or back 0 0) first)

pub boundary_name : (class : Class) (xs others : List ℕ) (n : ℕ) → 0 < length xs → others ≡ drop 1 xs → n ≤ length others → (n < length others → is_in class (get_or others n 0) ≡ true) → IsCharBoundary xs (1 + n)
boundary_name class [] others n some e le h = absurd (omega arith)
boundary_name class (x ∷ xs) others n some e le h =
    let same : suc n ≡ 1 + n = omega arith in
    subst (IsCharBoundary (x ∷ xs)) same
    (boundary_before class (x ∷ xs) (suc n) (omega (arith, ap length e)) (λ lt. ap (λ l. is_in class (get_or l n 0)) (sym e) ∙ h (omega (arith, ap length e))))

pub cuts_name : (class : Class) (xs others name rest : List ℕ) (n : ℕ) → 0 < length xs → others ≡ drop 1 xs → n ≤ length others → ((k : ℕ) → k < n → is_in class (get_or others k 0) ≡ false) → (n < length others → is_in class (get_or others n 0) ≡ true) → name ≡ take (1 + n) xs → rest ≡ drop (1 + n) xs → CutsName class xs name rest
cuts_name class [] others name rest n some e le h s f g = absurd (omega arith)
cuts_name class (x ∷ xs) others name rest n some e le h s f g =
    let same : 1 + n ≡ suc n = omega arith in (
      f ∙ ap (λ k. take k (x ∷ xs)) same ∙ ap (λ l. x ∷ l) (ap (take n) (sym e) ∙ sym (before_take (is_in class) others n le h s) ∙ ap (before (is_in class)) e),
      g ∙ ap (λ k. drop k (x ∷ xs)) same ∙ ap (drop n) (sym e) ∙ sym (from_drop (is_in class) others n le h s) ∙ ap (from (is_in class)) e,
    )
