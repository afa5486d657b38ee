-- Characters that were escaped are read back.
use Rattle.std.proofs.Common.{◌≡◌, ◌≢◌, ℕ, ◌<◌, ◌≤◌, ◌+◌, ◌/◌, ◌%◌, Bool, true, false, List, [], ◌∷◌, ◌++◌, cond, eqb, ltb, length, refl, sym, ap, ◌∙◌, subst, arith, append_assoc, length-append, ⊎_elim, inl, codes}
use Rattle.std.proofs.lemmas.Bool.{eqb-true, cases_lt, false≢true}
use Rattle.std.proofs.lemmas.Bool.Decides.{nat_tests}
use Rattle.std.proofs.lemmas.Str.{encode_ascii, encodes-chars, length-encode, len_utf8_bounds}
use Rattle.std.specs.Char.{encode_utf8, to_ascii_lowercase}
use Rattle.std.specs.List.{flat_map}
use Rattle.std.specs.Str.{chars, encode_utf8_all}
use Rattle.h5_token.specs.declared.states.RawKind.TheVariants.{Rcdata}
use Rattle.h5_markup.specs.Matching.{No, Found, or_else, and_then}
use Rattle.h5_serialize.specs.Escape.{escape_char, escape}
use Rattle.h5_markup.specs.Text.{text_of, ReadsBit}
use Rattle.h5_markup.specs.Text as t
use Rattle.h5_markup.proofs.TextLaws.{one_byte, reads_found, text_nil}
use Rattle.h5_serialize.proofs.EscapeLaws.{AreAbove, above_encode, by_cases, has, has_no_quote, or_first, or_second}
use Rattle.h5_plain_tokenizer.specs.declared.front.Mode.{Mode}
use Rattle.h5_plain_tokenizer.specs.declared.front.Mode.TheVariants.{Data, RawData}
use Rattle.h5_plain_tokenizer.specs.Front.{Bit, in_data, raw_end_tag, opening, finished, other, front}
use Rattle.h5_plain_tokenizer.specs.Read.{Bits, no_bit, more_bits}
use Rattle.h5_builder_laws.specs.Plain.{NoNul}
use Rattle.h5_round_trip.specs.Readable.{IsReadable, NoCr}

-- ---- bytes that begin nothing but text

pub record IsFree (x : ℕ) : Type 0 where
  pub lt : eqb x 60 ≡ false
  pub amp : eqb x 38 ≡ false
  pub cr : eqb x 13 ≡ false
  pub nul : eqb x 0 ≡ false
  pub low : eqb (to_ascii_lowercase x) 60 ≡ false

abbrev pub AreFree : List ℕ → Type 0
AreFree [] = Unit {0}
AreFree (x ∷ xs) = IsFree x × AreFree xs

lower_not : (x : ℕ) → eqb x 60 ≡ false → eqb (to_ascii_lowercase x) 60 ≡ false
lower_not x h = grind (arith, nat_tests)

ne-eqb : (x n : ℕ) → x ≢ n → eqb x n ≡ false
ne-eqb x n h = by (eqb x n) refl
  where
    by : (b : Bool) → eqb x n ≡ b → b ≡ false
    by true e = absurd (h (eqb-true x n e))
    by false e = refl

high_free : (x : ℕ) → 128 ≤ x → IsFree x
high_free x h =
    let no : eqb x 60 ≡ false = ne-eqb x 60 (λ e. absurd (omega arith)) in
    record {
      lt = no;
      amp = ne-eqb x 38 (λ e. absurd (omega arith));
      cr = ne-eqb x 13 (λ e. absurd (omega arith));
      nul = ne-eqb x 0 (λ e. absurd (omega arith));
      low = lower_not x no;
    }

above_free : (xs : List ℕ) → AreAbove 127 xs → AreFree xs
above_free [] h = tt
above_free (x ∷ xs) h = (high_free x h.0, above_free xs h.1)

high_encode : (c : ℕ) → 128 ≤ c → AreFree (encode_utf8 c)
high_encode c high = above_free (encode_utf8 c) (above_encode 127 c (omega arith) high)

-- a character but those with a meaning of their own
pub free_encode : (c : ℕ) → c ≢ 0 → c ≢ 13 → eqb c 38 ≡ false → eqb c 60 ≡ false → AreFree (encode_utf8 c)
free_encode c nul cr amp less = ⊎_elim
    (λ low. subst AreFree (sym (encode_ascii c low)) (record { lt = less; amp = amp; cr = ne-eqb c 13 cr; nul = ne-eqb c 0 nul; low = lower_not c less }, tt))
    (λ high. high_encode c high)
    (cases_lt c 128)

-- ---- in a text, and in that of a title

abbrev pub text_mode : (title : Bool) → Mode
text_mode false = Data
text_mode true = RawData Rcdata

front_no : (mode : Mode) (last : List ℕ) (foreign : Bool) (xs : List ℕ) → opening mode last foreign xs ≡ No → front mode last foreign xs ≡ other xs
front_no mode last foreign xs h = ap (λ m. or_else (and_then m finished) (other xs)) h

free_raw : (last : List ℕ) (x : ℕ) (xs : List ℕ) → IsFree x → raw_end_tag last (x ∷ xs) ≡ No
free_raw [] x xs p = refl
free_raw (c ∷ cs) x xs p = simp (p.lt)

free_data : (foreign : Bool) (x : ℕ) (xs : List ℕ) → IsFree x → in_data foreign (x ∷ xs) ≡ No
free_data true x xs p = simp (p.lt, p.amp, p.cr, p.nul, p.low)
free_data false x xs p = simp (p.lt, p.amp, p.cr, p.nul, p.low)

free_opening : (title : Bool) (last : List ℕ) (foreign : Bool) (x : ℕ) (xs : List ℕ) → IsFree x → opening (text_mode title) last foreign (x ∷ xs) ≡ No
free_opening false last foreign x xs p = free_data foreign x xs p
free_opening true last foreign x xs p = simp (free_raw last x xs p, p.amp, p.cr, p.nul)

free_bit : (title : Bool) (last : List ℕ) (foreign : Bool) (x : ℕ) (xs : List ℕ) → IsFree x → front (text_mode title) last foreign (x ∷ xs) ≡ Found (Bit (x ∷ [])) xs
free_bit title last foreign x xs p = front_no (text_mode title) last foreign (x ∷ xs) (free_opening title last foreign x xs p)

amp_bit : (title : Bool) (last : List ℕ) (foreign : Bool) (ys : List ℕ) → front (text_mode title) last foreign (codes "&amp;" ++ ys) ≡ Found (Bit (38 ∷ [])) ys
amp_bit false last true ys = refl
amp_bit false last false ys = refl
amp_bit true [] foreign ys = refl
amp_bit true (c ∷ cs) foreign ys = refl

nbsp_bit : (title : Bool) (last : List ℕ) (foreign : Bool) (ys : List ℕ) → front (text_mode title) last foreign (codes "&nbsp;" ++ ys) ≡ Found (Bit (0xc2 ∷ 0xa0 ∷ [])) ys
nbsp_bit false last true ys = refl
nbsp_bit false last false ys = refl
nbsp_bit true [] foreign ys = refl
nbsp_bit true (c ∷ cs) foreign ys = refl

less_bit : (title : Bool) (last : List ℕ) (foreign : Bool) (ys : List ℕ) → front (text_mode title) last foreign (codes "&lt;" ++ ys) ≡ Found (Bit (60 ∷ [])) ys
less_bit false last true ys = refl
less_bit false last false ys = refl
less_bit true [] foreign ys = refl
less_bit true (c ∷ cs) foreign ys = refl

greater_bit : (title : Bool) (last : List ℕ) (foreign : Bool) (ys : List ℕ) → front (text_mode title) last foreign (codes "&gt;" ++ ys) ≡ Found (Bit (62 ∷ [])) ys
greater_bit false last true ys = refl
greater_bit false last false ys = refl
greater_bit true [] foreign ys = refl
greater_bit true (c ∷ cs) foreign ys = refl

quote_bit : (title : Bool) (last : List ℕ) (foreign : Bool) (ys : List ℕ) → front (text_mode title) last foreign (codes "&quot;" ++ ys) ≡ Found (Bit (34 ∷ [])) ys
quote_bit false last true ys = refl
quote_bit false last false ys = refl
quote_bit true [] foreign ys = refl
quote_bit true (c ∷ cs) foreign ys = refl

nbsp_encoded : encode_utf8 160 ≡ 0xc2 ∷ 0xa0 ∷ []
unfolding encode_utf8
nbsp_encoded = refl

-- free bytes, before more bits
pub free_bits : (title : Bool) (last : List ℕ) (foreign : Bool) (bs rest text ys : List ℕ) → AreFree bs → Bits (text_mode title) last true rest text ys → ((foreign ≡ true → ⊥) → bs ≡ [] → ⊥) → Bits (text_mode title) last foreign (bs ++ rest) (bs ++ text) ys
free_bits title last true [] rest text ys free bits some = bits
free_bits title last false [] rest text ys free bits some = absurd (some false≢true refl)
free_bits title last foreign (x ∷ bs) rest text ys free bits some =
    more_bits (x ∷ []) (free_bit title last foreign x (bs ++ rest) free.0) (free_bits title last true bs rest text ys free.1 bits (λ no. absurd (no refl)))

pub byte_some : (c : ℕ) → encode_utf8 c ≡ [] → ⊥
unfolding encode_utf8
byte_some c e = by (ltb c 128) (ltb c 2048) (ltb c 65536) e
  where
    by : (a b d : Bool) → cond a (c ∷ []) (cond b ((192 + c / 64) ∷ (128 + c % 64) ∷ []) (cond d ((224 + c / 4096) ∷ (128 + c / 64 % 64) ∷ (128 + c % 64) ∷ []) ((240 + c / 262144) ∷ (128 + c / 4096 % 64) ∷ (128 + c / 64 % 64) ∷ (128 + c % 64) ∷ []))) ≡ [] → ⊥
    by true b d e = cc
    by false true d e = cc
    by false false true e = cc
    by false false false e = cc

encoded : (n : ℕ) → n < 128 → (c : ℕ) → c ≡ n → n ∷ [] ≡ encode_utf8 c
encoded n lt c e = sym (encode_ascii n lt) ∙ ap encode_utf8 (sym e)

-- a character, before more text
pub char_bits : (title : Bool) (last : List ℕ) (foreign : Bool) (c : ℕ) (rest text ys : List ℕ) → c ≢ 0 → c ≢ 13 → Bits (text_mode title) last true rest text ys → Bits (text_mode title) last foreign (escape_char false c ++ rest) (encode_utf8 c ++ text) ys
char_bits title last foreign c rest text ys nul cr bits =
    by_cases false c (λ l. Bits (text_mode title) last foreign (l ++ rest) (encode_utf8 c ++ text) ys)
    (λ e. given (codes "&amp;") (38 ∷ []) (amp_bit title last foreign rest) (encoded 38 (omega arith) c e))
    (λ e. given (codes "&nbsp;") (0xc2 ∷ 0xa0 ∷ []) (nbsp_bit title last foreign rest) (sym (ap encode_utf8 e ∙ nbsp_encoded)))
    (λ e. given (codes "&lt;") (60 ∷ []) (less_bit title last foreign rest) (encoded 60 (omega arith) c e))
    (λ e. given (codes "&gt;") (62 ∷ []) (greater_bit title last foreign rest) (encoded 62 (omega arith) c e))
    (λ e. given (codes "&quot;") (34 ∷ []) (quote_bit title last foreign rest) (encoded 34 (omega arith) c e))
    (λ amp less greater _. free_bits title last foreign (encode_utf8 c) rest text ys (free_encode c nul cr amp less) bits (λ no. byte_some c))
  where
    given : (written bit : List ℕ) → front (text_mode title) last foreign (written ++ rest) ≡ Found (Bit bit) rest → bit ≡ encode_utf8 c → Bits (text_mode title) last foreign (written ++ rest) (encode_utf8 c ++ text) ys
    given written bit h e = subst (λ (l : List ℕ). Bits (text_mode title) last foreign (written ++ rest) (l ++ text) ys) e (more_bits bit h bits)

-- ---- characters of a text

-- none is NUL or CR
abbrev pub AreKept : List ℕ → Type 0
AreKept [] = Unit {0}
AreKept (c ∷ cs) = (c ≢ 0) × ((c ≢ 13) × AreKept cs)

pub chars_bits : (title : Bool) (last : List ℕ) (c : ℕ) (cs : List ℕ) (foreign : Bool) (ys : List ℕ) → AreKept (c ∷ cs) → Bits (text_mode title) last foreign (flat_map (escape_char false) (c ∷ cs) ++ ys) (encode_utf8_all (c ∷ cs)) ys
chars_bits title last c [] foreign ys k = rw (append_assoc (escape_char false c) [] ys) (char_bits title last foreign c ys [] ys k.0 k.1.0 no_bit)
chars_bits title last c (d ∷ cs) foreign ys k = rw (append_assoc (escape_char false c) (flat_map (escape_char false) (d ∷ cs)) ys) (char_bits title last foreign c _ _ ys k.0 k.1.0 (chars_bits title last d cs true ys k.1.1))

-- ---- values

free_byte : (x : ℕ) (xs : List ℕ) → IsFree x → text_of true (x ∷ xs) ≡ x ∷ text_of true xs
free_byte x xs p = let no : t.escape true (x ∷ xs) ≡ No = simp (p.amp, p.cr, p.nul) in one_byte true x xs (inl no)

free_bytes : (bs rest : List ℕ) → AreFree bs → text_of true (bs ++ rest) ≡ bs ++ text_of true rest
free_bytes [] rest free = refl
free_bytes (x ∷ bs) rest free = free_byte x (bs ++ rest) free.0 ∙ ap (λ l. x ∷ l) (free_bytes bs rest free.1)

char_value : (c : ℕ) (rest : List ℕ) → c ≢ 0 → c ≢ 13 → text_of true (escape_char true c ++ rest) ≡ encode_utf8 c ++ text_of true rest
char_value c rest nul cr =
    by_cases true c (λ l. text_of true (l ++ rest) ≡ encode_utf8 c ++ text_of true rest)
    (λ e. given (codes "&amp;") (38 ∷ []) refl (encoded 38 (omega arith) c e))
    (λ e. given (codes "&nbsp;") (0xc2 ∷ 0xa0 ∷ []) refl (sym (ap encode_utf8 e ∙ nbsp_encoded)))
    (λ e. given (codes "&lt;") (60 ∷ []) refl (encoded 60 (omega arith) c e))
    (λ e. given (codes "&gt;") (62 ∷ []) refl (encoded 62 (omega arith) c e))
    (λ e. given (codes "&quot;") (34 ∷ []) refl (encoded 34 (omega arith) c e))
    (λ amp less greater _. free_bytes (encode_utf8 c) rest (free_encode c nul cr amp less))
  where
    given : (written bit : List ℕ) → t.escape true (written ++ rest) ≡ Found bit rest → bit ≡ encode_utf8 c → text_of true (written ++ rest) ≡ encode_utf8 c ++ text_of true rest
    given written bit h e = sym ((reads_found true (written ++ rest) rest bit [] bit h refl).same) ∙ ap (λ l. l ++ text_of true rest) e

chars_value : (cs : List ℕ) → AreKept cs → text_of true (flat_map (escape_char true) cs) ≡ encode_utf8_all cs
chars_value [] k = text_nil true
chars_value (c ∷ cs) k = char_value c (flat_map (escape_char true) cs) k.0 k.1.0 ∙ ap (λ l. encode_utf8 c ++ l) (chars_value cs k.1.1)

-- ---- bytes and characters

abbrev KeptBytes : List ℕ → Type 0
KeptBytes [] = Unit {0}
KeptBytes (b ∷ bs) = (b ≢ 0) × ((b ≢ 13) × KeptBytes bs)

kept_behind : (xs ys : List ℕ) → KeptBytes (xs ++ ys) → KeptBytes ys
kept_behind [] ys k = k
kept_behind (x ∷ xs) ys k = kept_behind xs ys k.1.1

kept_first : (c : ℕ) (rest : List ℕ) → KeptBytes (encode_utf8 c ++ rest) → (c ≢ 0) × (c ≢ 13)
kept_first c rest k = ((λ e. at 0 (omega arith) e (λ x. x.0)), (λ e. at 13 (omega arith) e (λ x. x.1.0)))
  where
    at : (n : ℕ) → n < 128 → c ≡ n → (KeptBytes (n ∷ rest) → n ≢ n) → ⊥
    at n lt e kills = kills (subst KeptBytes (ap (λ l. l ++ rest) (ap encode_utf8 e ∙ encode_ascii n lt)) k) refl

kept_chars : (cs : List ℕ) → KeptBytes (encode_utf8_all cs) → AreKept cs
kept_chars [] k = tt
kept_chars (c ∷ cs) k = let h = kept_first c (encode_utf8_all cs) k in (h.0, (h.1, kept_chars cs (kept_behind (encode_utf8 c) (encode_utf8_all cs) k)))

kept_by : (t : List ℕ) → NoNul t → NoCr t → KeptBytes t
kept_by [] n c = tt
kept_by (b ∷ t) n c = (n.0, (c.0, kept_by t n.1 c.1))

pub kept : (t : List ℕ) → IsReadable t → AreKept (chars t)
kept t r = kept_chars (chars t) (subst KeptBytes (sym (encodes-chars t r.utf8)) (kept_by t r.no_nul r.no_cr))

-- what was escaped is read back
pub value_read : (value : List ℕ) → IsReadable value → text_of true (escape true value) ≡ value
value_read value r = chars_value (chars value) (kept value r) ∙ encodes-chars value r.utf8

bits_by : (title : Bool) (last cs : List ℕ) (foreign : Bool) (ys : List ℕ) → AreKept cs → (cs ≡ [] → ⊥) → Bits (text_mode title) last foreign (flat_map (escape_char false) cs ++ ys) (encode_utf8_all cs) ys
bits_by title last [] foreign ys k some = absurd (some refl)
bits_by title last (c ∷ cs) foreign ys k some = chars_bits title last c cs foreign ys k

pub text_read : (title : Bool) (last : List ℕ) (foreign : Bool) (x : ℕ) (text ys : List ℕ) → IsReadable (x ∷ text) → Bits (text_mode title) last foreign (escape false (x ∷ text) ++ ys) (x ∷ text) ys
text_read title last foreign x text ys r =
    let same = encodes-chars (x ∷ text) r.utf8 in
    subst (λ (l : List ℕ). Bits (text_mode title) last foreign (escape false (x ∷ text) ++ ys) l ys) same
    (bits_by title last (chars (x ∷ text)) foreign ys (kept (x ∷ text) r) (λ e. none (sym same ∙ ap encode_utf8_all e)))
  where
    none : x ∷ text ≡ [] → ⊥
    none e = cc

-- ---- no quote in a value

-- no byte of a list stops it
abbrev pub None : (ℕ → Bool) → List ℕ → Type 0
None stop [] = Unit {0}
None stop (x ∷ xs) = (stop x ≡ false) × None stop xs

none_by : (n : ℕ) (xs : List ℕ) → has n xs ≡ false → None (λ x. eqb x n) xs
none_by n [] h = tt
none_by n (x ∷ xs) h = (or_first (eqb x n) (has n xs) h, none_by n xs (or_second (eqb x n) (has n xs) h))

pub no_quote : (value : List ℕ) → None (λ x. eqb x 34) (escape true value)
no_quote value = none_by 34 (escape true value) (has_no_quote value)

-- ---- something is written

char_some : (c : ℕ) → 0 < length (escape_char false c)
char_some c = by_cases false c (λ l. 0 < length l) (λ e. omega arith) (λ e. omega arith) (λ e. omega arith) (λ e. omega arith) (λ e. omega arith) (λ amp less greater quote. omega (arith, length-encode c, (len_utf8_bounds c).0))

some_by : (cs : List ℕ) → (cs ≡ [] → ⊥) → 0 < length (flat_map (escape_char false) cs)
some_by [] h = absurd (h refl)
some_by (c ∷ cs) h = omega (arith, char_some c, length-append (escape_char false c) (flat_map (escape_char false) cs))

pub some_written : (x : ℕ) (text : List ℕ) → IsReadable (x ∷ text) → 0 < length (escape false (x ∷ text))
some_written x text r = some_by (chars (x ∷ text)) (λ e. none (sym (encodes-chars (x ∷ text) r.utf8) ∙ ap encode_utf8_all e))
  where
    none : x ∷ text ≡ [] → ⊥
    none e = cc
