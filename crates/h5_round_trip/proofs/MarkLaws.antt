-- The text of nodes doesn't stop inside of a byte order mark.
use Rattle.std.proofs.Common.{◌≡◌, ◌⊎◌, ◌∙◌, ◌==◌, ◌+◌, ◌/◌, ◌%◌, ◌<◌, ℕ, Bool, true, false, cond, List, [], ◌∷◌, ◌++◌, eqb, ltb, if◌then◌else◌, ap, append_assoc, arith, inl, inr, refl}
use Rattle.std.specs.Char.{encode_utf8}
use Rattle.std.specs.List.{flat_map}
use Rattle.std.specs.Str.{chars, encode_utf8_all}
use Rattle.std.proofs.lemmas.Bool.{ltb-true, ne_eqb}
use Rattle.std.proofs.lemmas.Str.{encodes-chars}
use Rattle.h5_markup.specs.Matching.{Found, No}
use Rattle.h5_serialize.specs.Escape.{escape, escape_char}
use Rattle.h5_serialize.proofs.EscapeLaws.{by_cases}
use Rattle.h5_standard_tokenizer.specs.Mark.{is_open, mark}
use Rattle.h5_builder_laws.specs.Plain.{End, Nodes}
use Rattle.h5_round_trip.specs.Readable.{CanBeRead, IsReadable}
use Rattle.h5_round_trip.specs.Written.{written_before}
use Rattle.h5_round_trip.proofs.ShapeLaws.{Element, None, Shape, Text, Title, Void}

-- three bytes decide, and so does one that isn't the mark's first
three : (x y z : ℕ) (more : List ℕ) → is_open (mark (x ∷ y ∷ z ∷ more)) ≡ false
three x y z more = by (x == 0xef) (y == 0xbb) (z == 0xbf)
  where
    by : (p q r : Bool) → is_open (if p then (if q then (if r then Found tt more else No) else No) else No) ≡ false
    by true true true = refl
    by true true false = refl
    by true false r = refl
    by false q r = refl

other : (x : ℕ) (more : List ℕ) → x < 0xef → is_open (mark (x ∷ more)) ≡ false
other x more small = let no : eqb x 0xef ≡ false = ne_eqb x 0xef (λ e. absurd (omega (arith, small, e))) in rw no refl

-- so does a character, and what is written of it
encode_decides : (c : ℕ) (more : List ℕ) → is_open (mark (encode_utf8 c ++ more)) ≡ false
unfolding encode_utf8
encode_decides c more = by (ltb c 128) (ltb c 2048) (ltb c 65536) refl refl
  where
    by : (a b d : Bool) → ltb c 128 ≡ a → ltb c 2048 ≡ b
        → is_open (mark (cond a (c ∷ []) (cond b ((192 + c / 64) ∷ (128 + c % 64) ∷ []) (cond d ((224 + c / 4096) ∷ (128 + c / 64 % 64) ∷ (128 + c % 64) ∷ []) ((240 + c / 262144) ∷ (128 + c / 4096 % 64) ∷ (128 + c / 64 % 64) ∷ (128 + c % 64) ∷ []))) ++ more)) ≡ false
    by true b d small big = other c more (omega (arith, ltb-true c 128 small))
    by false true d small big = other (192 + c / 64) ((128 + c % 64) ∷ more) (omega (arith, ltb-true c 2048 big))
    by false false true small big = three (224 + c / 4096) (128 + c / 64 % 64) (128 + c % 64) more
    by false false false small big = three (240 + c / 262144) (128 + c / 4096 % 64) (128 + c / 64 % 64) ((128 + c % 64) ∷ more)

escape_decides : (c : ℕ) (more : List ℕ) → is_open (mark (escape_char false c ++ more)) ≡ false
escape_decides c more =
    by_cases false c (λ l. is_open (mark (l ++ more)) ≡ false) (λ e. refl) (λ e. refl) (λ e. refl) (λ e. refl) (λ e. refl) (λ amp less greater quote. encode_decides c more)

text_decides : (x : ℕ) (text more : List ℕ) → IsReadable (x ∷ text) → is_open (mark (escape false (x ∷ text) ++ more)) ≡ false
text_decides x text more r = by (chars (x ∷ text)) (encodes-chars (x ∷ text) r.utf8)
  where
    by : (cs : List ℕ) → encode_utf8_all cs ≡ x ∷ text → is_open (mark (flat_map (escape_char false) cs ++ more)) ≡ false
    by [] e = absurd (cc)
    by (c ∷ cs) e = ap (λ l. is_open (mark l)) (append_assoc (escape_char false c) (flat_map (escape_char false) cs) more) ∙ escape_decides c (flat_map (escape_char false) cs ++ more)

-- if something is written, it is known if it begins with a mark
pub text_begins : {b : Bool} (ns : Nodes) (more : List ℕ) → Shape b ns → CanBeRead ns → (ns ≡ End) ⊎ (is_open (mark (written_before ns more)) ≡ false)
text_begins End more None c = inl refl
text_begins _ more (Text {first} {more = words} {rest} s) c = inr (text_decides first words (written_before rest more) c.0)
text_begins _ more (Void v p s) c = inr refl
text_begins _ more (Element o p i s) c = inr refl
text_begins _ more (Title p s) c = inr refl
