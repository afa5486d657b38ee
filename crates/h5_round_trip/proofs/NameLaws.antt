-- Names that are read as they were written.
use Rattle.std.proofs.Common.{◌≡◌, ℕ, Bool, true, false, not, ◌||◌, List, [], ◌∷◌, ◌++◌, eqb, map, refl, sym, ap, ◌∙◌, arith, inl}
use Rattle.std.proofs.lemmas.Bool.{false≢true}
use Rattle.std.proofs.lemmas.Bool.Decides.{nat_tests}
use Rattle.std.specs.Char.{is_ascii_uppercase, is_ascii_whitespace, to_ascii_lowercase}
use Rattle.h5_markup.specs.Matching.{No}
use Rattle.h5_markup.specs.Cuts.{is_in, before, from}
use Rattle.h5_markup.specs.declared.cut.Class.TheVariants.{NameEnd, AttributeNameEnd}
use Rattle.h5_markup.specs.Text.{name_of, text_of}
use Rattle.h5_markup.specs.Text as t
use Rattle.h5_markup.proofs.TextLaws.{reads_plain, text_nil}
use Rattle.h5_round_trip.specs.Readable.{AreNameBytes, is_name_byte}
use Rattle.h5_round_trip.proofs.CharLaws.{None}

-- what is known of such a byte
pub record NameByte (x : ℕ) : Type 0 where
  pub blank : is_ascii_whitespace x ≡ false
  pub slash : eqb x 47 ≡ false
  pub greater : eqb x 62 ≡ false
  pub equals : eqb x 61 ≡ false
  pub nul : eqb x 0 ≡ false
  pub double : eqb x 34 ≡ false
  pub single : eqb x 39 ≡ false
  pub less : eqb x 60 ≡ false
  pub cr : eqb x 13 ≡ false
  pub lower : to_ascii_lowercase x ≡ x

parts : (a b c d e f g h i : Bool) → not (a || (b || (c || (d || (e || (f || (g || (h || i)))))))) ≡ true → (a ≡ false) × (b ≡ false) × (c ≡ false) × (d ≡ false) × (e ≡ false) × (f ≡ false) × (g ≡ false) × (h ≡ false) × (i ≡ false)
parts true b c d e f g h i n = absurd (false≢true n)
parts false true c d e f g h i n = absurd (false≢true n)
parts false false true d e f g h i n = absurd (false≢true n)
parts false false false true e f g h i n = absurd (false≢true n)
parts false false false false true f g h i n = absurd (false≢true n)
parts false false false false false true g h i n = absurd (false≢true n)
parts false false false false false false true h i n = absurd (false≢true n)
parts false false false false false false false true i n = absurd (false≢true n)
parts false false false false false false false false true n = absurd (false≢true n)
parts false false false false false false false false false n = (refl, refl, refl, refl, refl, refl, refl, refl, refl)

no_cr : (x : ℕ) → is_ascii_whitespace x ≡ false → eqb x 13 ≡ false
no_cr x h = grind (arith, nat_tests)

stays_low : (x : ℕ) → is_ascii_uppercase x ≡ false → to_ascii_lowercase x ≡ x
stays_low x h = grind (arith, nat_tests)

pub name_byte : (x : ℕ) → is_name_byte x ≡ true → NameByte x
name_byte x h =
    let p = parts (is_ascii_uppercase x) (is_ascii_whitespace x) (eqb x 47) (eqb x 62) (eqb x 61) (eqb x 34) (eqb x 39) (eqb x 60) (eqb x 0) h in
    record { blank = p.1; slash = p.2; greater = p.3; equals = p.4; double = p.5; single = p.6; less = p.7; nul = p.8; cr = no_cr x p.1; lower = stays_low x p.0 }

text_byte : (x : ℕ) (xs : List ℕ) → NameByte x → text_of false (x ∷ xs) ≡ x ∷ text_of false xs
text_byte x xs p =
    let none : t.escape false (x ∷ xs) ≡ No = simp (p.cr, p.nul) in
    let r = reads_plain false (x ∷ xs) xs [] (x ∷ []) 0 1 (omega arith) (omega arith) (λ k lt. absurd (omega arith)) refl refl refl (inl none) in
    sym r.same

name_text : (xs : List ℕ) → AreNameBytes xs → text_of false xs ≡ xs
name_text [] h = text_nil false
name_text (x ∷ xs) h = text_byte x xs (name_byte x h.0) ∙ ap (λ l. x ∷ l) (name_text xs h.1)

low_name : (xs : List ℕ) → AreNameBytes xs → map to_ascii_lowercase xs ≡ xs
low_name [] h = refl
low_name (x ∷ xs) h = let p = name_byte x h.0 in (λ i. p.lower i ∷ low_name xs h.1 i)

-- a name is read as it was written
pub name_read : (xs : List ℕ) → AreNameBytes xs → name_of xs ≡ xs
name_read xs h = ap (map to_ascii_lowercase) (name_text xs h) ∙ low_name xs h

-- nothing in it ends the name of a tag, or of an attribute
pub in_tag : (xs : List ℕ) → AreNameBytes xs → None (is_in NameEnd) xs
in_tag [] h = tt
in_tag (x ∷ xs) h = let p = name_byte x h.0 in ((rw (p.greater, p.slash, p.blank) refl), in_tag xs h.1)

pub in_attribute : (xs : List ℕ) → AreNameBytes xs → None (is_in AttributeNameEnd) xs
in_attribute [] h = tt
in_attribute (x ∷ xs) h = let p = name_byte x h.0 in ((rw (p.equals, p.greater, p.slash, p.blank) refl), in_attribute xs h.1)

-- ---- cuts

pub before_stop : (stop : ℕ → Bool) (xs : List ℕ) (y : ℕ) (ys : List ℕ) → None stop xs → stop y ≡ true → before stop (xs ++ y ∷ ys) ≡ xs
before_stop stop [] y ys h e = rw e refl
before_stop stop (x ∷ xs) y ys h e = rw h.0 (ap (λ l. x ∷ l) (before_stop stop xs y ys h.1 e))

pub from_stop : (stop : ℕ → Bool) (xs : List ℕ) (y : ℕ) (ys : List ℕ) → None stop xs → stop y ≡ true → from stop (xs ++ y ∷ ys) ≡ y ∷ ys
from_stop stop [] y ys h e = rw e refl
from_stop stop (x ∷ xs) y ys h e = rw h.0 (from_stop stop xs y ys h.1 e)

pub before_all : (stop : ℕ → Bool) (xs : List ℕ) → None stop xs → before stop xs ≡ xs
before_all stop [] h = refl
before_all stop (x ∷ xs) h = rw h.0 (ap (λ l. x ∷ l) (before_all stop xs h.1))

pub from_none : (stop : ℕ → Bool) (xs : List ℕ) → None stop xs → from stop xs ≡ []
from_none stop [] h = refl
from_none stop (x ∷ xs) h = rw h.0 (from_none stop xs h.1)
