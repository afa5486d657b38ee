-- Fixed texts, compared byte by byte.
use Rattle.std.proofs.Common.{◌≡◌, ℕ, zero, suc, ◌<◌, ◌≤◌, ◌+◌, ◌-◌, Bool, true, false, List, [], ◌∷◌, cond, eqb, length, drop, get_or, refl, subst, arith, IsUtf8, ⊎_elim}
use Rattle.std.proofs.lemmas.Bool.{eqb-true, cases_lt}
use Rattle.std.proofs.lemmas.Bool.Decides.{nat_tests}
use Rattle.std.specs.Char.{to_ascii_lowercase}
use Rattle.std.specs.Str.{IsCharBoundary}
use Rattle.std.proofs.lemmas.Str.{IsCharBoundary-after_ascii}
use Rattle.h5_markup.specs.Matching.{Match, Open, No, Found, word}

if_found : (b : Bool) (m : Match (Unit {0})) (r : List ℕ) → cond b m No ≡ Found tt r → (b ≡ true) × (m ≡ Found tt r)
if_found true m r h = (refl, h)
if_found false m r h = cc

-- a text that ends too early
pub word_ends : (needle text : List ℕ) (i : ℕ) → i < length needle → length text ≤ i → i ≤ length text → word (drop i needle) (drop i text) ≡ Open
word_ends [] text i lt le ge = absurd (omega arith)
word_ends (p ∷ ps) [] zero lt le ge = refl
word_ends (p ∷ ps) [] (suc i) lt le ge = absurd (omega arith)
word_ends (p ∷ ps) (x ∷ xs) zero lt le ge = absurd (omega arith)
word_ends (p ∷ ps) (x ∷ xs) (suc i) lt le ge = word_ends ps xs i (omega arith) (omega arith) (omega arith)

-- each byte is the needle's
pub word_same : (needle text r : List ℕ) (k : ℕ) → word needle text ≡ Found tt r → k < length needle → to_ascii_lowercase (get_or text k 0) ≡ to_ascii_lowercase (get_or needle k 0)
word_same [] text r k h lt = absurd (omega arith)
word_same (p ∷ ps) [] r k h lt = cc
word_same (p ∷ ps) (x ∷ xs) r zero h lt = eqb-true (to_ascii_lowercase x) (to_ascii_lowercase p) (if_found (eqb (to_ascii_lowercase x) (to_ascii_lowercase p)) (word ps xs) r h).0
word_same (p ∷ ps) (x ∷ xs) r (suc k) h lt = word_same ps xs r k (if_found (eqb (to_ascii_lowercase x) (to_ascii_lowercase p)) (word ps xs) r h).1 (omega arith)

lower_ascii : (p : ℕ) → p < 128 → to_ascii_lowercase p < 128
lower_ascii p lt = grind (arith, nat_tests)

lower_high : (x : ℕ) → 128 ≤ x → to_ascii_lowercase x ≡ x
lower_high x le = grind (arith, nat_tests)

same_ascii : (x p : ℕ) → p < 128 → to_ascii_lowercase x ≡ to_ascii_lowercase p → x < 128
same_ascii x p lt e = ⊎_elim (λ small. small) (λ le. absurd (omega (arith, lower_high x le, lower_ascii p lt, e))) (cases_lt x 128)

pub word_boundary : (needle text r : List ℕ) → 0 < length needle → get_or needle (length needle - 1) 0 < 128 → IsUtf8 text → length needle ≤ length text → word needle text ≡ Found tt r → IsCharBoundary text (length needle)
word_boundary needle text r some ascii utf8 le h =
    let same : length needle - 1 + 1 ≡ length needle = omega arith in
    subst (IsCharBoundary text) same (IsCharBoundary-after_ascii text (length needle - 1) utf8 (omega arith) (same_ascii (get_or text (length needle - 1) 0) (get_or needle (length needle - 1) 0) ascii (word_same needle text r (length needle - 1) h (omega arith))))
