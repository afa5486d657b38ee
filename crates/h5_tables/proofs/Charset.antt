-- The search for `charset`.
use Rattle.std.proofs.Common.{◌≡◌, ◌∙◌, ◌<◌, ◌≤◌, ◌+◌, ℕ, zero, suc, Bool, true, false, List, [], ◌∷◌, cond, eqb, length, drop, get_or, map, refl, sym, ap, subst, arith, IsUtf8}
use Rattle.std.proofs.lemmas.Bool.{false_from_ne_true}
use Rattle.std.proofs.lemmas.Bool.Decides.{nat_tests}
use Rattle.std.proofs.lemmas.List.{get_or-drop, length-drop}
use Rattle.std.proofs.lemmas.Str.{IsCharBoundary-after_ascii, IsCharBoundary-before_ascii, IsUtf8-drop}
use Rattle.std.proofs.Math.Seq.{drop-length}
use Rattle.std.specs.Char.{to_ascii_lowercase}
use Rattle.std.specs.Prelude.{Option, None, Some}
use Rattle.std.specs.Str.{IsCharBoundary}
use Rattle.memchr.specs.Find.{IsFirstByte, is_byte2}
use Rattle.h5_markup.specs.Matching.{Match, Open, No, Found, word}
use Rattle.h5_tables.specs.MetaEncoding.{after_charset, after_declaration, after_word, first_or_else}

-- what follows, if it is there
abbrev pub rest_of : Match (Unit {0}) → Option (List ℕ)
rest_of Open = None
rest_of No = None
rest_of (Found a rest) = Some rest

word_step : (b : Bool) (m : Match (Unit {0})) (later : Option (List ℕ)) → later ≡ rest_of m → cond b later None ≡ rest_of (cond b m No)
word_step true m later e = e
word_step false m later e = refl

pub word_is : (needle t : List ℕ) → after_word (map to_ascii_lowercase needle) t ≡ rest_of (word needle t)
word_is [] t = refl
word_is (p ∷ ps) [] = refl
word_is (p ∷ ps) (b ∷ t) = word_step (eqb (to_ascii_lowercase b) (to_ascii_lowercase p)) (word ps t) (after_word (map to_ascii_lowercase ps) t) (word_is ps t)

-- it begins with `c` or `C`
no_letter : (b : ℕ) → is_byte2 99 67 b ≡ false → eqb (to_ascii_lowercase b) 99 ≡ false
no_letter b h = grind (arith, nat_tests)

not_here : (b : ℕ) (t : List ℕ) → is_byte2 99 67 b ≡ false → after_declaration (b ∷ t) ≡ None
not_here b t h = rw (no_letter b h)

passed_over : (t : List ℕ) (n : ℕ) → n ≤ length t → ((k : ℕ) → k < n → is_byte2 99 67 (get_or t k 0) ≡ false) → after_charset t ≡ after_charset (drop n t)
passed_over t zero le h = refl
passed_over [] (suc n) le h = refl
passed_over (b ∷ t) (suc n) le h = ap (λ found. first_or_else found (after_charset t)) (not_here b t (h 0 (omega arith))) ∙ passed_over t n (omega arith) (λ k lt. h (suc k) (omega arith))

pub no_more : (t : List ℕ) → IsFirstByte (is_byte2 99 67) t None → after_charset t ≡ None
no_more t h = passed_over t (length t) (omega arith) (λ k lt. false_from_ne_true _ (h k (omega arith) lt)) ∙ ap after_charset (drop-length t)

pub next_is : (t : List ℕ) (n : ℕ) → IsFirstByte (is_byte2 99 67) t (Some n) → after_charset t ≡ after_charset (drop n t)
next_is t n h = passed_over t n (omega (arith, h.0.high)) (λ k lt. false_from_ne_true _ (h.0.before k (omega arith) lt))

letter_is_ascii : (b : ℕ) → is_byte2 99 67 b ≡ true → b < 128
letter_is_ascii b h = grind (arith, nat_tests)

pub letter_there : (t : List ℕ) (n : ℕ) → IsFirstByte (is_byte2 99 67) t (Some n) → (0 < length (drop n t)) × (get_or (drop n t) 0 0 < 128)
letter_there t n h =
    let same : n + 0 ≡ n = omega arith in (
      rw length-drop (omega (arith, h.0.high)),
      rw (get_or-drop n t 0 0, same) (letter_is_ascii (get_or t n 0) h.1),
    )

-- a text that begins with the letter may be split after it
pub text_there : (t found : List ℕ) (n : ℕ) → IsUtf8 t → IsFirstByte (is_byte2 99 67) t (Some n) → found ≡ drop n t → IsUtf8 found × IsCharBoundary found 1
text_there t found n utf8 h e =
    let ascii : get_or t n 0 < 128 = letter_is_ascii (get_or t n 0) h.1 in
    let text : IsUtf8 found = subst IsUtf8 (sym e) (IsUtf8-drop t n utf8 (IsCharBoundary-before_ascii t n h.0.high ascii)) in
    let there = rw (sym e) at (letter_there t n h) in
    (text, IsCharBoundary-after_ascii found 0 text there.0 there.1)

-- where there is a declaration, and where there is none
pub declared_here : (t : List ℕ) (rest : List ℕ) → 0 < length t → after_declaration t ≡ Some rest → after_charset t ≡ Some rest
declared_here [] rest some e = absurd (omega arith)
declared_here (b ∷ t) rest some e = ap (λ found. first_or_else found (after_charset t)) e

pub declared_later : (t : List ℕ) → 0 < length t → after_declaration t ≡ None → after_charset t ≡ after_charset (drop 1 t)
declared_later [] some e = absurd (omega arith)
declared_later (b ∷ t) some e = ap (λ found. first_or_else found (after_charset t)) e
