-- What is left of a text can be read.
use Rattle.std.proofs.Common.{◌≡◌, ◌≢◌, ℕ, zero, suc, ◌+◌, ◌/◌, ◌%◌, ◌<◌, ◌≤◌, ◌==◌, length, nat_lt, ◌&&◌, Bool, true, false, cond, List, [], ◌∷◌, ◌++◌, IsAscii, IsUtf8, inl, inr, refl, sym, ap, ◌∙◌, subst, arith}
use Rattle.std.proofs.lemmas.Bool.{and_parts, ltb-true, cases_lt, cond_both, eqb-true, eqb-false, ne_eqb}
use Rattle.std.proofs.lemmas.Str.{IsUtf8-append, IsUtf8-encode, IsUtf8-from_ascii, IsUtf8-from_is_utf8, IsUtf8-nil, IsUtf8-past_char, encode_ascii, is_utf8-from_IsUtf8}
use Rattle.std.specs.Char.{IsScalar, encode_utf8}
use Rattle.std.specs.Str.{all_scalars, encode_utf8_all, is_utf8}
use Rattle.h5_serialize.proofs.EscapeLaws.{AreAbove, above_encode}
use Rattle.h5_builder_laws.specs.Plain.{NoNul}
use Rattle.h5_round_trip.specs.Readable.{IsReadable, NoCr}
use Rattle.h5_clean.specs.Calls.{is_nothing}
use Rattle.h5_clean.specs.Texts.{readable, without_marks}

-- ---- a text as it is left

pub no_nul : (t : List ℕ) → NoNul (readable t)
no_nul [] = tt
no_nul (b ∷ t) = cond_both (b == 0) (readable t) (cond (b == 13) 10 b ∷ readable t) NoNul (λ e. no_nul t) (λ e. (some e, no_nul t))
  where
    some : (b == 0) ≡ false → cond (b == 13) 10 b ≢ 0
    some e = cond_both (b == 13) 10 b (λ x. x ≢ 0) (λ cr. λ h. omega arith) (λ cr. eqb-false b 0 e)

pub no_cr : (t : List ℕ) → NoCr (readable t)
no_cr [] = tt
no_cr (b ∷ t) = cond_both (b == 0) (readable t) (cond (b == 13) 10 b ∷ readable t) NoCr (λ e. no_cr t) (λ e. (other, no_cr t))
  where
    other : cond (b == 13) 10 b ≢ 13
    other = cond_both (b == 13) 10 b (λ x. x ≢ 13) (λ cr. λ h. omega arith) (eqb-false b 13)

pub readable_append : (t u : List ℕ) → readable (t ++ u) ≡ readable t ++ readable u
readable_append [] u = refl
readable_append (b ∷ t) u = by (b == 0) (cond (b == 13) 10 b) (readable_append t u)
  where
    by : (nul : Bool) (x : ℕ) → readable (t ++ u) ≡ readable t ++ readable u → cond nul (readable (t ++ u)) (x ∷ readable (t ++ u)) ≡ cond nul (readable t) (x ∷ readable t) ++ readable u
    by true x e = e
    by false x e = ap (λ l. x ∷ l) e

-- ---- a text that stays

kept : (t : List ℕ) → NoNul t → NoCr t → readable t ≡ t
kept [] n c = refl
kept (b ∷ t) n c =
    rw (ne_eqb b 0 n.0, ne_eqb b 13 c.0) (ap (λ l. b ∷ l) (kept t n.1 c.1))

pub readable_same : (t : List ℕ) → IsReadable t → readable t ≡ t
readable_same t r = kept t r.no_nul r.no_cr

pub kept_above : (t : List ℕ) → AreAbove 127 t → readable t ≡ t
kept_above [] h = refl
kept_above (b ∷ t) h =
    rw (ne_eqb b 0 (λ e. omega arith), ne_eqb b 13 (λ e. omega arith)) (ap (λ l. b ∷ l) (kept_above t h.1))

-- ---- characters stay characters

one_byte : (b : ℕ) → b < 128 → IsUtf8 (b ∷ [])
one_byte b small = IsUtf8-from_ascii (b ∷ []) below
  where
    below : IsAscii (b ∷ [])
    below zero = small
    below (suc i) = omega arith

one_left : (c : ℕ) → IsScalar c → IsUtf8 (readable (encode_utf8 c))
one_left c s = elim (cases_lt c 128) [
  | inl small ↦
      rw (encode_ascii c small)
      (cond_both (c == 0) [] (cond (c == 13) 10 c ∷ []) IsUtf8 (λ e. IsUtf8-nil)
      (λ e. cond_both (c == 13) 10 c (λ x. IsUtf8 (x ∷ [])) (λ cr. one_byte 10 (omega arith)) (λ cr. one_byte c small)))
  | inr big ↦ subst IsUtf8 (sym (kept_above (encode_utf8 c) (above_encode 127 c (omega arith) big))) (IsUtf8-encode c s)
]

all_left : (cs : List ℕ) → all_scalars cs ≡ true → IsUtf8 (readable (encode_utf8_all cs))
all_left [] e = IsUtf8-nil
all_left (c ∷ cs) e =
    let p = and_parts _ _ e in
    subst IsUtf8 (sym (readable_append (encode_utf8 c) (encode_utf8_all cs))) (IsUtf8-append _ _ (one_left c p.0) (all_left cs p.1))

pub readable_reads : (t : List ℕ) → is_utf8 t ≡ true → IsReadable (readable t)
readable_reads t h =
    let u = IsUtf8-from_is_utf8 t h in
    record { utf8 = subst (λ l. IsUtf8 (readable l)) u.1.1 (all_left u.0 u.1.0); no_nul = no_nul t; no_cr = no_cr t }

pub reads_utf8 : (t : List ℕ) → IsReadable t → is_utf8 t ≡ true
reads_utf8 t r = is_utf8-from_IsUtf8 t r.utf8

-- ---- texts joined

pub nul_joined : (t u : List ℕ) → NoNul t → NoNul u → NoNul (t ++ u)
nul_joined [] u n m = m
nul_joined (b ∷ t) u n m = (n.0, nul_joined t u n.1 m)

pub cr_joined : (t u : List ℕ) → NoCr t → NoCr u → NoCr (t ++ u)
cr_joined [] u n m = m
cr_joined (b ∷ t) u n m = (n.0, cr_joined t u n.1 m)

pub reads_joined : (t u : List ℕ) → IsReadable t → IsReadable u → IsReadable (t ++ u)
reads_joined t u r s = record {
  utf8 = IsUtf8-append t u r.utf8 s.utf8;
  no_nul = nul_joined t u r.no_nul s.no_nul;
  no_cr = cr_joined t u r.no_cr s.no_cr;
}

-- ---- a text without its start

abbrev pub is_mark : (a b c : ℕ) → Bool
is_mark a b c = (a == 0xef) && ((b == 0xbb) && (c == 0xbf))

pub mark_is : (a b c : ℕ) (t : List ℕ) → is_mark a b c ≡ true → a ∷ b ∷ c ∷ t ≡ encode_utf8 0xfeff ++ t
unfolding encode_utf8
mark_is a b c t e =
    let first = and_parts (a == 0xef) _ e in
    let second = and_parts (b == 0xbb) _ first.1 in
    rw (eqb-true a 0xef first.0, eqb-true b 0xbb second.0, eqb-true c 0xbf second.1) refl

pub reads_without_marks : (t : List ℕ) → IsReadable t → IsReadable (without_marks t)
reads_without_marks [] r = r
reads_without_marks (a ∷ []) r = r
reads_without_marks (a ∷ b ∷ []) r = r
reads_without_marks (a ∷ b ∷ c ∷ t) r =
    cond_both (is_mark a b c) (without_marks t) (a ∷ b ∷ c ∷ t) IsReadable (λ e. reads_without_marks t (rest e)) (λ e. r)
  where
    rest : is_mark a b c ≡ true → IsReadable t
    rest e = record {
      utf8 = IsUtf8-past_char (a ∷ b ∷ c ∷ t) t 0xfeff r.utf8 (mark_is a b c t e);
      no_nul = r.no_nul.1.1.1;
      no_cr = r.no_cr.1.1.1;
    }

pub marks_again : (t : List ℕ) → without_marks (without_marks t) ≡ without_marks t
marks_again [] = refl
marks_again (a ∷ []) = refl
marks_again (a ∷ b ∷ []) = refl
marks_again (a ∷ b ∷ c ∷ t) =
    cond_both (is_mark a b c) (without_marks t) (a ∷ b ∷ c ∷ t) (λ l. without_marks l ≡ l) (λ e. marks_again t)
    (λ e. ap (λ v. cond v (without_marks t) (a ∷ b ∷ c ∷ t)) e)

-- a character that begins with the first byte of U+FEFF has three bytes at least
long_enough : (c : ℕ) (more t : List ℕ) → encode_utf8 c ++ more ≡ 0xef ∷ t → 2 ≤ length t
unfolding encode_utf8
long_enough c more t e = by (nat_lt c 128) (nat_lt c 2048) (nat_lt c 65536) refl refl e
  where
    by : (a b d : Bool) → nat_lt c 128 ≡ a → nat_lt c 2048 ≡ b
        → cond a (c ∷ []) (cond b ((192 + c / 64) ∷ (128 + c % 64) ∷ []) (cond d ((224 + c / 4096) ∷ (128 + c / 64 % 64) ∷ (128 + c % 64) ∷ []) ((240 + c / 262144) ∷ (128 + c / 4096 % 64) ∷ (128 + c / 64 % 64) ∷ (128 + c % 64) ∷ []))) ++ more ≡ 0xef ∷ t
        → 2 ≤ length t
    by true b d small two f = let first : c ≡ 0xef = cc in absurd (omega (arith, ltb-true c 128 small, first))
    by false true d small two f = let first : 192 + c / 64 ≡ 0xef = cc in absurd (omega (arith, ltb-true c 2048 two, first))
    by false false true small two f = let rest : ((128 + c / 64 % 64) ∷ (128 + c % 64) ∷ []) ++ more ≡ t = cc in subst (λ l. 2 ≤ length l) rest (omega arith)
    by false false false small two f = let rest : ((128 + c / 4096 % 64) ∷ (128 + c / 64 % 64) ∷ (128 + c % 64) ∷ []) ++ more ≡ t = cc in subst (λ l. 2 ≤ length l) rest (omega arith)

not_short : (a : ℕ) (t : List ℕ) → IsUtf8 (a ∷ t) → length t < 2 → (a == 0xef) ≡ false
not_short a t ([], (s, e)) short = absurd (cc)
not_short a t (c ∷ cs, (s, e)) short = at (a == 0xef) refl
  where
    at : (b : Bool) → (a == 0xef) ≡ b → b ≡ false
    at true h = absurd (let long = long_enough c (encode_utf8_all cs) t (e ∙ ap (λ x. x ∷ t) (eqb-true a 0xef h)) in omega (arith, long, short))
    at false h = refl

others_stay : (a : ℕ) (t : List ℕ) → (a == 0xef) ≡ false → without_marks (a ∷ t) ≡ a ∷ t
others_stay a [] h = refl
others_stay a (b ∷ []) h = refl
others_stay a (b ∷ c ∷ t) h = ap (λ v. cond (v && ((b == 0xbb) && (c == 0xbf))) (without_marks t) (a ∷ b ∷ c ∷ t)) h

pub marks_append : (t u : List ℕ) → IsUtf8 t → without_marks (t ++ u) ≡ cond (is_nothing (without_marks t)) (without_marks u) (without_marks t ++ u)
marks_append [] u h = refl
marks_append (a ∷ []) u h = others_stay a u (not_short a [] h (omega arith))
marks_append (a ∷ b ∷ []) u h = others_stay a (b ∷ u) (not_short a (b ∷ []) h (omega arith))
marks_append (a ∷ b ∷ c ∷ t) u h =
    at (is_mark a b c) refl (λ e. marks_append t u (IsUtf8-past_char (a ∷ b ∷ c ∷ t) t 0xfeff h (mark_is a b c t e)))
  where
    at : (m : Bool) → is_mark a b c ≡ m → (is_mark a b c ≡ true → without_marks (t ++ u) ≡ cond (is_nothing (without_marks t)) (without_marks u) (without_marks t ++ u))
        → cond m (without_marks (t ++ u)) (a ∷ b ∷ c ∷ (t ++ u)) ≡ cond (is_nothing (cond m (without_marks t) (a ∷ b ∷ c ∷ t))) (without_marks u) (cond m (without_marks t) (a ∷ b ∷ c ∷ t) ++ u)
    at true e later = later e
    at false e later = refl
