-- The layout of a text, character by character.
use Rattle.std.proofs.Common.{◌≡◌, ◌≢◌, ℕ, ◌+◌, ◌/◌, ◌%◌, ◌≤◌, Bool, true, false, cond, ltb, List, [], ◌∷◌, ◌++◌, inl, inr, refl, sym, ap, ◌∙◌, arith, append_assoc}
use Rattle.std.specs.Char.{encode_utf8}
use Rattle.std.proofs.lemmas.Bool.{cases_lt, ne_eqb, false≢true, le-ltb}
use Rattle.std.proofs.lemmas.Str.{encode_ascii}
use Rattle.h5_page.specs.Layout.{Laid, inked, inked_as, is_blank, opened, with_byte, with_text}

-- no byte is ASCII
abbrev pub AreHigh : List ℕ → Type 0
AreHigh [] = Unit {0}
AreHigh (c ∷ cs) = (128 ≤ c) × AreHigh cs

inked_join : (k : Bool) (indent : ℕ) (s t : List ℕ) (p : Laid) → inked_as k indent (s ++ t) p ≡ inked_as k indent t (inked_as k indent s p)
inked_join true indent s t p = ap (λ l. record (inked_as true indent s p) { line = l }) (sym (append_assoc (opened indent p).line s t))
inked_join false indent s t p = ap (λ l. record (inked indent s p) { line = l }) (sym (append_assoc (opened indent p).line s t))

no_blank : (c : ℕ) → 128 ≤ c → is_blank c ≡ false
no_blank c h = rw (ne_eqb c 9 (omega (arith, h)), ne_eqb c 10 (omega (arith, h)), ne_eqb c 12 (omega (arith, h)), ne_eqb c 13 (omega (arith, h)), ne_eqb c 32 (omega (arith, h))) refl

high_byte : (k : Bool) (indent c : ℕ) (p : Laid) → 128 ≤ c → with_byte k indent c p ≡ inked_as k indent (c ∷ []) p
high_byte true indent c p h = rw (ne_eqb c 10 (omega (arith, h))) refl
high_byte false indent c p h = rw (no_blank c h) refl

-- there is a byte, and none is ASCII
abbrev pub IsHigh : List ℕ → Type 0
IsHigh [] = ⊥
IsHigh (c ∷ cs) = (128 ≤ c) × AreHigh cs

high_text : (k : Bool) (indent : ℕ) (t : List ℕ) (p : Laid) → IsHigh t → with_text k indent t p ≡ inked_as k indent t p
high_text k indent [] p h = elim h [ ]
high_text k indent (c ∷ []) p h = high_byte k indent c p h.0
high_text k indent (c ∷ d ∷ ds) p h =
    ap (with_text k indent (d ∷ ds)) (high_byte k indent c p h.0)
    ∙ high_text k indent (d ∷ ds) (inked_as k indent (c ∷ []) p) h.1
    ∙ sym (inked_join k indent (c ∷ []) (d ∷ ds) p)

high_encode : (c : ℕ) → 128 ≤ c → IsHigh (encode_utf8 c)
unfolding encode_utf8
high_encode c high = by (ltb c 128) (le-ltb c 128 high) (ltb c 2048) (ltb c 65536)
  where
    by : (a : Bool) → a ≡ false → (b d : Bool) → IsHigh (cond a (c ∷ []) (cond b ((192 + c / 64) ∷ (128 + c % 64) ∷ []) (cond d ((224 + c / 4096) ∷ (128 + c / 64 % 64) ∷ (128 + c % 64) ∷ []) ((240 + c / 262144) ∷ (128 + c / 4096 % 64) ∷ (128 + c / 64 % 64) ∷ (128 + c % 64) ∷ []))))
    by true e b d = absurd (false≢true (sym e))
    by false e true d = (omega arith, (omega arith, tt))
    by false e false true = (omega arith, (omega arith, (omega arith, tt)))
    by false e false false = (omega arith, (omega arith, (omega arith, (omega arith, tt))))

-- a character other than a newline, if whitespace is kept, or other than whitespace, if it is collapsed
abbrev pub IsInk : (keeps_blanks : Bool) → ℕ → Type 0
IsInk true c = c ≢ 10
IsInk false c = is_blank c ≡ false

low_byte : (k : Bool) (indent c : ℕ) (p : Laid) → IsInk k c → with_byte k indent c p ≡ inked_as k indent (c ∷ []) p
low_byte true indent c p h = rw (ne_eqb c 10 h) refl
low_byte false indent c p h = rw h refl

pub ink_char : (k : Bool) (indent c : ℕ) (p : Laid) → IsInk k c → with_text k indent (encode_utf8 c) p ≡ inked_as k indent (encode_utf8 c) p
ink_char k indent c p h = elim (cases_lt c 128) [
  | inl small ↦ rw (encode_ascii c small) (low_byte k indent c p h)
  | inr big ↦ high_text k indent (encode_utf8 c) p (high_encode c big)
]

pub text_join : (k : Bool) (indent : ℕ) (s t : List ℕ) (p : Laid) → with_text k indent (s ++ t) p ≡ with_text k indent t (with_text k indent s p)
text_join k indent [] t p = refl
text_join k indent (c ∷ s) t p = text_join k indent s t (with_byte k indent c p)
