-- Bytes that are only text.
use Rattle.std.proofs.Common.{◌≡◌, ℕ, zero, suc, ◌<◌, ◌≤◌, Bool, true, false, not, ◌||◌, List, ◌∷◌, eqb, length, get_or, refl, sym, ◌∙◌, subst, arith, max, ⊎_elim, IsUtf8}
use Rattle.std.proofs.lemmas.Bool.{false≢true, cases_lt}
use Rattle.std.proofs.lemmas.Bool.Decides.{nat_tests}
use Rattle.std.specs.Char.{to_ascii_lowercase}
use Rattle.std.specs.Str.{IsCharBoundary}
use Rattle.std.proofs.lemmas.Str.{IsCharBoundary-before_ascii, IsCharBoundary-after_ascii, IsCharBoundary-end}
use Rattle.h5_markup.specs.Matching.{No}
use Rattle.h5_markup.specs.Plain.{is_plain}
use Rattle.h5_markup.specs.Text.{escape}

-- a byte that begins nothing
pub record Plain (x : ℕ) : Type 0 where
  pub lt : eqb x 60 ≡ false
  pub amp : eqb x 38 ≡ false
  pub cr : eqb x 13 ≡ false
  pub nul : eqb x 0 ≡ false
  pub bracket : eqb x 93 ≡ false
  pub low : eqb (to_ascii_lowercase x) 60 ≡ false

plain_by : (a b c d e : Bool) → not (a || (b || (c || (d || e)))) ≡ true → (a ≡ false) × (b ≡ false) × (c ≡ false) × (d ≡ false) × (e ≡ false)
plain_by true b c d e h = absurd (false≢true h)
plain_by false true c d e h = absurd (false≢true h)
plain_by false false true d e h = absurd (false≢true h)
plain_by false false false true e h = absurd (false≢true h)
plain_by false false false false true h = absurd (false≢true h)
plain_by false false false false false h = (refl, refl, refl, refl, refl)

lower_not : (x : ℕ) → eqb x 60 ≡ false → eqb (to_ascii_lowercase x) 60 ≡ false
lower_not x h = grind (arith, nat_tests)

pub plain : (x : ℕ) → is_plain x ≡ true → Plain x
plain x h = let p = plain_by (eqb x 60) (eqb x 38) (eqb x 13) (eqb x 0) (eqb x 93) h in record { lt = p.0; amp = p.1; cr = p.2; nul = p.3; bracket = p.4; low = lower_not x p.0 }

pub plain_escape : (references : Bool) (x : ℕ) (xs : List ℕ) → is_plain x ≡ true → escape references (x ∷ xs) ≡ No
plain_escape true x xs h = let p = plain x h in simp (p.amp, p.cr, p.nul)
plain_escape false x xs h = let p = plain x h in simp (p.cr, p.nul)

ascii : (x : ℕ) → is_plain x ≡ false → x < 128
ascii x h = ⊎_elim (λ lt. lt) (λ le. absurd (false≢true (sym h ∙ high x le))) (cases_lt x 128)
  where
    high : (y : ℕ) → 128 ≤ y → is_plain y ≡ true
    high y le = grind (arith, nat_tests)

cut_more : (xs : List ℕ) (n : ℕ) → n ≤ length xs → (n < length xs → is_plain (get_or xs n 0) ≡ false) → IsCharBoundary xs n
cut_more xs n le stops = ⊎_elim (λ lt. IsCharBoundary-before_ascii xs n lt (ascii (get_or xs n 0) (stops lt))) (λ ge. let e : length xs ≡ n = omega arith in subst (IsCharBoundary xs) e (IsCharBoundary-end xs)) (cases_lt n (length xs))

-- a text may be split after its plain bytes, or after another byte
pub cut_plain : (xs : List ℕ) (c n : ℕ) → IsUtf8 xs → 0 < length xs → c ≤ length xs → (c < length xs → is_plain (get_or xs c 0) ≡ false) → n ≡ max c 1 → IsCharBoundary xs n
cut_plain xs zero n utf8 some le stops e = rw e (IsCharBoundary-after_ascii xs 0 utf8 some (ascii (get_or xs 0 0) (stops some)))
cut_plain xs (suc c) n utf8 some le stops e = let same : n ≡ suc c = omega arith in rw same (cut_more xs (suc c) le stops)
