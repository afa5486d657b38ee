-- The characters of an escaped text, and that it determines its text.
use Rattle.std.proofs.Common.{◌≡◌, ℕ, zero, suc, ◌<◌, ◌≤◌, ◌+◌, ◌/◌, ◌%◌, Bool, true, false, ◌||◌, ◌&&◌, ◌==◌, List, [], ◌∷◌, ◌++◌, cond, eqb, ltb, length, refl, sym, ap, ◌∙◌, arith, length-append, ⊎_elim, IsUtf8}
use Rattle.std.proofs.lemmas.Bool.{eqb-true, eqb-false, cases_lt, false≢true, le-ltb}
use Rattle.std.proofs.lemmas.List.{append_cancel_left}
use Rattle.std.proofs.lemmas.Str.{encode_ascii, length-encode, len_utf8_bounds, encode_same, char_from_byte, encodes-chars}
use Rattle.std.specs.Char.{encode_utf8}
use Rattle.std.specs.List.{flat_map, Contains, list_any, slice_index_or}
use Rattle.std.specs.Str.{chars, encode_utf8_all}
use Rattle.std.specs.Prelude.{codes, if◌then◌else◌}
use Rattle.h5_serialize.specs.Escape.{escape_char, escape}

-- ---- by cases on the escape of a character

choose : (P : List ℕ → Type 0) (b : Bool) (x y : List ℕ) → (b ≡ true → P x) → (b ≡ false → P y) → P (cond b x y)
choose P true x y f g = f refl
choose P false x y f g = g refl

second_true : (a b : Bool) → a && b ≡ true → b ≡ true
second_true true b h = h
second_true false b h = absurd (false≢true h)

pub by_cases : (mode : Bool) (c : ℕ) (P : List ℕ → Type 0)
    → (c ≡ 38 → P (codes "&amp;")) → (c ≡ 160 → P (codes "&nbsp;")) → (c ≡ 60 → P (codes "&lt;")) → (c ≡ 62 → P (codes "&gt;")) → (c ≡ 34 → P (codes "&quot;"))
    → (eqb c 38 ≡ false → eqb c 60 ≡ false → eqb c 62 ≡ false → (mode && eqb c 34) ≡ false → P (encode_utf8 c)) → P (escape_char mode c)
by_cases mode c P amp nbsp less greater quote plain =
    choose P (eqb c 38) _ _ (λ e. amp (eqb-true c 38 e)) (λ no_amp.
    choose P (eqb c 160) _ _ (λ e. nbsp (eqb-true c 160 e)) (λ no_nbsp.
    choose P (eqb c 60) _ _ (λ e. less (eqb-true c 60 e)) (λ no_less.
    choose P (eqb c 62) _ _ (λ e. greater (eqb-true c 62 e)) (λ no_greater.
    choose P (mode && eqb c 34) _ _ (λ e. quote (eqb-true c 34 (second_true mode _ e))) (λ no_quote.
    plain no_amp no_less no_greater no_quote)))))

-- ---- no mark

abbrev pub has : ℕ → List ℕ → Bool
has m xs = list_any (λ x. eqb x m) xs

-- each number is above m
abbrev pub AreAbove : ℕ → List ℕ → Type 0
AreAbove m [] = Unit {0}
AreAbove m (x ∷ xs) = (m < x) × AreAbove m xs

pub unequal_above : (x m : ℕ) → m < x → eqb x m ≡ false
unequal_above x m h = by (eqb x m) refl
  where
    by : (b : Bool) → eqb x m ≡ b → b ≡ false
    by true e = absurd (omega (arith, eqb-true x m e))
    by false e = refl

above_has : (m : ℕ) (xs : List ℕ) → AreAbove m xs → has m xs ≡ false
above_has m [] h = refl
above_has m (x ∷ xs) h = ap (λ b. b || has m xs) (unequal_above x m h.0) ∙ above_has m xs h.1

pub above_encode : (m c : ℕ) → m < 128 → 128 ≤ c → AreAbove m (encode_utf8 c)
unfolding encode_utf8
above_encode m c small high = by (ltb c 128) (le-ltb c 128 high) (ltb c 2048) (ltb c 65536)
  where
    by : (a : Bool) → a ≡ false → (b d : Bool) → AreAbove m (cond a (c ∷ []) (cond b ((192 + c / 64) ∷ (128 + c % 64) ∷ []) (cond d ((224 + c / 4096) ∷ (128 + c / 64 % 64) ∷ (128 + c % 64) ∷ []) ((240 + c / 262144) ∷ (128 + c / 4096 % 64) ∷ (128 + c / 64 % 64) ∷ (128 + c % 64) ∷ []))))
    by true e b d = absurd (false≢true (sym e))
    by false e true d = (omega arith, (omega arith, tt))
    by false e false true = (omega arith, (omega arith, (omega arith, tt)))
    by false e false false = (omega arith, (omega arith, (omega arith, (omega arith, tt))))

plain_has : (m c : ℕ) → m < 128 → eqb c m ≡ false → has m (encode_utf8 c) ≡ false
plain_has m c small h = ⊎_elim
    (λ low. ap (has m) (encode_ascii c low) ∙ ap (λ b. b || false) h)
    (λ high. above_has m (encode_utf8 c) (above_encode m c small high))
    (cases_lt c 128)

or_false : (a b : Bool) → a ≡ false → b ≡ false → a || b ≡ false
or_false a b h g = ap (λ x. x || b) h ∙ g

pub or_first : (a b : Bool) → a || b ≡ false → a ≡ false
or_first true b e = e
or_first false b e = refl

pub or_second : (a b : Bool) → a || b ≡ false → b ≡ false
or_second true b e = absurd (false≢true (sym e))
or_second false b e = e

has_append : (m : ℕ) (xs ys : List ℕ) → has m xs ≡ false → has m ys ≡ false → has m (xs ++ ys) ≡ false
has_append m [] ys h g = g
has_append m (x ∷ xs) ys h g = or_false _ _ (or_first _ _ h) (has_append m xs ys (or_second _ _ h) g)

has_all : (m : ℕ) (f : ℕ → List ℕ) → ((c : ℕ) → has m (f c) ≡ false) → (cs : List ℕ) → has m (flat_map f cs) ≡ false
has_all m f h [] = refl
has_all m f h (c ∷ cs) = has_append m (f c) (flat_map f cs) (h c) (has_all m f h cs)

contains_has : (m : ℕ) (xs : List ℕ) → has m xs ≡ false → ¬ (Contains xs m)
contains_has m xs h (k, lt, e) = at xs k h lt e
  where
    at : (ys : List ℕ) (k : ℕ) → has m ys ≡ false → k < length ys → slice_index_or ys k m ≡ m → ⊥
    at [] k h lt e = omega arith
    at (y ∷ ys) zero h lt e = eqb-false y m (or_first _ _ h) e
    at (y ∷ ys) (suc k) h lt e = at ys k (or_second _ _ h) (omega arith) e

no_mark : (mode : Bool) (m : ℕ) → m < 128 → ((c : ℕ) → has m (escape_char mode c) ≡ false) → (text : List ℕ) → ¬ (Contains (escape mode text) m)
no_mark mode m small h text = contains_has m (escape mode text) (has_all m (escape_char mode) h (chars text))

pub no_less_than : (mode : Bool) (text : List ℕ) → ¬ (Contains (escape mode text) 60)
no_less_than mode = no_mark mode 60 (omega arith) (λ c. by_cases mode c (λ l. has 60 l ≡ false) (λ e. refl) (λ e. refl) (λ e. refl) (λ e. refl) (λ e. refl) (λ amp less greater quote. plain_has 60 c (omega arith) less))

pub no_greater_than : (mode : Bool) (text : List ℕ) → ¬ (Contains (escape mode text) 62)
no_greater_than mode = no_mark mode 62 (omega arith) (λ c. by_cases mode c (λ l. has 62 l ≡ false) (λ e. refl) (λ e. refl) (λ e. refl) (λ e. refl) (λ e. refl) (λ amp less greater quote. plain_has 62 c (omega arith) greater))

quote_char : (c : ℕ) → has 34 (escape_char true c) ≡ false
quote_char c = by_cases true c (λ l. has 34 l ≡ false) (λ e. refl) (λ e. refl) (λ e. refl) (λ e. refl) (λ e. refl) (λ amp less greater quote. plain_has 34 c (omega arith) quote)

pub has_no_quote : (text : List ℕ) → has 34 (escape true text) ≡ false
has_no_quote text = has_all 34 (escape_char true) quote_char (chars text)

pub no_quote : (text : List ℕ) → ¬ (Contains (escape true text) 34)
no_quote = no_mark true 34 (omega arith) quote_char

-- ---- different texts

-- the character of a reference, by its second byte
abbrev named_by : ℕ → ℕ
named_by k = if k == 97 then 38 else (if k == 110 then 160 else (if k == 108 then 60 else (if k == 103 then 62 else 34)))

-- the escape of a character determines it
data Tells (c : ℕ) : List ℕ → Type 0 where
  Plain : (c ≡ 38 → ⊥) → Tells c (encode_utf8 c)
  Named : (k : ℕ) (tail : List ℕ) → named_by k ≡ c → Tells c (38 ∷ k ∷ tail)

tells : (mode : Bool) (c : ℕ) → Tells c (escape_char mode c)
tells mode c = by_cases mode c (Tells c) (λ e. Named _ _ (sym e)) (λ e. Named _ _ (sym e)) (λ e. Named _ _ (sym e)) (λ e. Named _ _ (sym e)) (λ e. Named _ _ (sym e)) (λ amp less greater quote. Plain (eqb-false c 38 amp))

begins_plain : (c k : ℕ) (r tail : List ℕ) → (c ≡ 38 → ⊥) → 38 ∷ k ∷ tail ≡ encode_utf8 c ++ r → ⊥
begins_plain c k r tail ne e = ne (char_from_byte (38 ∷ k ∷ tail) r c e (omega arith) (omega arith))

same_char : {c d : ℕ} {xs ys : List ℕ} (r s : List ℕ) → Tells c xs → Tells d ys → xs ++ r ≡ ys ++ s → c ≡ d
same_char {c} {d} r s (Plain p) (Plain q) e = (encode_same c d r s e).0
same_char {c} {d} r s (Plain p) (Named k tail q) e = absurd (begins_plain c k r (tail ++ s) p (sym e))
same_char {c} {d} r s (Named k tail p) (Plain q) e = absurd (begins_plain d k s (tail ++ r) q e)
same_char {c} {d} r s (Named k tail p) (Named j rest q) e = let same : k ≡ j = cc in sym p ∙ ap named_by same ∙ q

some : (c : ℕ) (xs : List ℕ) → Tells c xs → 0 < length xs
some c xs (Plain p) = omega (arith, length-encode c, (len_utf8_bounds c).0)
some c xs (Named k tail p) = omega arith

all_same : (mode : Bool) (cs ds : List ℕ) → flat_map (escape_char mode) cs ≡ flat_map (escape_char mode) ds → cs ≡ ds
all_same mode [] [] e = refl
all_same mode [] (d ∷ ds) e = absurd (omega (arith, some d _ (tells mode d), ap length e, length-append (escape_char mode d) (flat_map (escape_char mode) ds)))
all_same mode (c ∷ cs) [] e = absurd (omega (arith, some c _ (tells mode c), ap length e, length-append (escape_char mode c) (flat_map (escape_char mode) cs)))
all_same mode (c ∷ cs) (d ∷ ds) e =
    let same = same_char _ _ (tells mode c) (tells mode d) e in
    let rest = append_cancel_left (escape_char mode d) (flat_map (escape_char mode) cs) (flat_map (escape_char mode) ds) (ap (λ x. escape_char mode x ++ flat_map (escape_char mode) cs) (sym same) ∙ e) in
    (λ i. same i ∷ all_same mode cs ds rest i)

pub same_text : (mode : Bool) (x y : List ℕ) → IsUtf8 x → IsUtf8 y → escape mode x ≡ escape mode y → x ≡ y
same_text mode x y u v e = sym (encodes-chars x u) ∙ ap encode_utf8_all (all_same mode (chars x) (chars y) e) ∙ encodes-chars y v
