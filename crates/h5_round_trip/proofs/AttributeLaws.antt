-- The attributes of a tag are read back.
use Rattle.std.proofs.Common.{◌≡◌, ℕ, Bool, true, false, ◌||◌, ◌&&◌, List, [], ◌∷◌, ◌++◌, eqb, drop, refl, sym, ap, ◌∙◌, append_assoc, append-nil, None as Nothing, codes}
use Rattle.std.proofs.lemmas.Bool.{eqb-true, eq-eqb, false≢true}
use Rattle.std.specs.List.{flat_map}
use Rattle.h5_names.specs.AttributeText.{AttributeText, is_same_name, is_same_text}
use Rattle.h5_interface.specs.Changes.{has_attribute}
use Rattle.h5_markup.specs.Cuts.{is_in, past}
use Rattle.h5_markup.specs.declared.cut.Class.TheVariants.{Blank, BetweenAttributes, AttributeNameEnd}
use Rattle.h5_markup.specs.Attributes.{Written, attribute_at, attribute_of, attributes_of, distinct, has_duplicates, is_named_in, repeats, with_value}
use Rattle.h5_markup.proofs.AttributeLaws.{attributes_none}
use Rattle.h5_markup.proofs.AttributeLaws as lower
use Rattle.h5_serialize.specs.Escape.{escape}
use Rattle.h5_serialize.specs.Writing.{attribute_written}
use Rattle.h5_builder_laws.specs.Plain.{ArePlain}
use Rattle.h5_round_trip.specs.Readable.{AreNameBytes, AreReadable, IsName, IsReadable}
use Rattle.h5_round_trip.proofs.CharLaws.{None, no_quote, value_read}
use Rattle.h5_round_trip.proofs.NameLaws.{NameByte, before_stop, from_stop, in_attribute, name_byte, name_read}

-- an attribute without namespace, as it is written
abbrev pub one_written : List ℕ → List ℕ → List ℕ
one_written name value = 32 ∷ (name ++ 61 ∷ 34 ∷ (value ++ 34 ∷ []))

pub written_plain : (a : AttributeText) → a.name.ns ≡ [] → attribute_written a ≡ one_written a.name.local (escape true a.value)
written_plain a h =
    let name = a.name.local in
    let value = escape true a.value in
    rw h (ap (λ l. 32 ∷ l) (append_assoc (name ++ codes "=\"") value (codes "\"") ∙ append_assoc name (codes "=\"") (value ++ codes "\"")))

-- before what follows
one_before : (name value more : List ℕ) → one_written name value ++ more ≡ 32 ∷ (name ++ 61 ∷ 34 ∷ (value ++ 34 ∷ more))
one_before name value more =
    ap (λ l. 32 ∷ l) (append_assoc name (61 ∷ 34 ∷ (value ++ 34 ∷ [])) more ∙ ap (λ l. name ++ 61 ∷ 34 ∷ l) (append_assoc value (34 ∷ []) more))

attribute_there : (n : ℕ) (ns value more : List ℕ) → AreNameBytes ns → None (λ x. eqb x 34) value
    → attribute_at n (ns ++ 61 ∷ 34 ∷ (value ++ 34 ∷ more)) ≡ record { name = n ∷ ns; value = value; rest = more }
attribute_there n ns value more names quiet =
    let behind = 61 ∷ 34 ∷ (value ++ 34 ∷ more) in
    let b = before_stop (is_in AttributeNameEnd) ns 61 (34 ∷ (value ++ 34 ∷ more)) (in_attribute ns names) refl in
    let f = from_stop (is_in AttributeNameEnd) ns 61 (34 ∷ (value ++ 34 ∷ more)) (in_attribute ns names) refl in
    let v = before_stop (λ x. eqb x 34) value 34 more quiet refl in
    let r = from_stop (λ x. eqb x 34) value 34 more quiet refl in
    (λ i. with_value (n ∷ b i) (past Blank (f i))) ∙ (λ i. record { name = n ∷ ns; value = v i; rest = drop 1 (r i) })

past_blank : (n : ℕ) (zs : List ℕ) → NameByte n → n ∷ zs ≡ past BetweenAttributes (32 ∷ n ∷ zs)
past_blank n zs p = rw (p.slash, p.blank) refl

one_read : (name value more : List ℕ) → IsName name → None (λ x. eqb x 34) value
    → attributes_of (one_written name value ++ more) ≡ attribute_of (record { name = name; value = value; rest = more }) ∷ attributes_of more
one_read [] value more names quiet = absurd names
one_read (n ∷ ns) value more names quiet =
    let zs = ns ++ 61 ∷ 34 ∷ (value ++ 34 ∷ more) in
    ap attributes_of (one_before (n ∷ ns) value more)
    ∙ lower.attributes_one (32 ∷ n ∷ zs) (n ∷ zs) (attribute_at n zs) (past_blank n zs (name_byte n names.0)) refl
    ∙ ap (λ (w : Written). attribute_of w ∷ attributes_of w.rest) (attribute_there n ns value more names.1 quiet)

name_bytes : (name : List ℕ) → IsName name → AreNameBytes name
name_bytes [] h = absurd h
name_bytes (x ∷ xs) h = h

same_attribute : (a : AttributeText) (more : List ℕ) → a.name.prefix ≡ Nothing → a.name.ns ≡ [] → IsName a.name.local → IsReadable a.value
    → attribute_of (record { name = a.name.local; value = escape true a.value; rest = more }) ≡ a
same_attribute a more p q n r =
    let l = name_read a.name.local (name_bytes a.name.local n) in
    let v = value_read a.value r in
    (λ i. record { name = record { prefix = sym p i; ns = sym q i; local = l i }; value = v i })

-- all of them are read back
pub attributes_read : (attrs : List AttributeText) → ArePlain attrs → AreReadable attrs → attributes_of (flat_map attribute_written attrs) ≡ attrs
attributes_read [] p r = attributes_none [] [] refl refl
attributes_read (a ∷ attrs) p r =
    ap (λ l. attributes_of (l ++ flat_map attribute_written attrs)) (written_plain a p.1.0)
    ∙ one_read a.name.local (escape true a.value) (flat_map attribute_written attrs) r.0 (no_quote a.value)
    ∙ (λ i. same_attribute a (flat_map attribute_written attrs) p.0 p.1.0 r.0 r.1.0 i ∷ attributes_read attrs p.1.1.1 r.1.1 i)

-- ---- each name once

eqb-sym : (a b : ℕ) → eqb a b ≡ eqb b a
eqb-sym a b = by (eqb a b) (eqb b a) refl refl
  where
    by : (p q : Bool) → eqb a b ≡ p → eqb b a ≡ q → p ≡ q
    by true true e f = refl
    by false false e f = refl
    by true false e f = sym (sym f ∙ eq-eqb b a (sym (eqb-true a b e)))
    by false true e f = sym e ∙ eq-eqb a b (sym (eqb-true b a f))

same_sym : (x y : List ℕ) → is_same_text x y ≡ is_same_text y x
same_sym [] [] = refl
same_sym [] (y ∷ ys) = refl
same_sym (x ∷ xs) [] = refl
same_sym (x ∷ xs) (y ∷ ys) = (λ i. eqb-sym x y i && same_sym xs ys i)

or_false : (a b : Bool) → a ≡ false → b ≡ false → a || b ≡ false
or_false a b h g = ap (λ x. x || b) h ∙ g

or_first : (a b : Bool) → a || b ≡ false → a ≡ false
or_first true b e = e
or_first false b e = refl

or_second : (a b : Bool) → a || b ≡ false → b ≡ false
or_second true b e = absurd (false≢true (sym e))
or_second false b e = e

-- no name of some stands among others
abbrev Apart : List AttributeText → List AttributeText → Type 0
Apart kept [] = Unit {0}
Apart kept (a ∷ others) = (is_named_in a.name.local kept ≡ false) × Apart kept others

-- names without prefix and namespace differ if their local parts do
other_name : (a b : AttributeText) → a.name.prefix ≡ Nothing → a.name.ns ≡ [] → b.name.prefix ≡ Nothing → b.name.ns ≡ [] → is_same_name b.name a.name ≡ false → is_same_text a.name.local b.name.local ≡ false
other_name a b p q r s h = same_sym a.name.local b.name.local ∙ sym (rw (p, q, r, s) refl) ∙ h

named_more : (name : List ℕ) (kept : List AttributeText) (a : AttributeText) → is_named_in name kept ≡ false → is_same_text a.name.local name ≡ false → is_named_in name (kept ++ a ∷ []) ≡ false
named_more name [] a h g = or_false _ _ g refl
named_more name (k ∷ kept) a h g = or_false _ _ (or_first _ _ h) (named_more name kept a (or_second _ _ h) g)

apart_more : (kept others : List AttributeText) (a : AttributeText) → a.name.prefix ≡ Nothing → a.name.ns ≡ [] → has_attribute a.name others ≡ false → ArePlain others → Apart kept others → Apart (kept ++ a ∷ []) others
apart_more kept [] a p q h plain apart = tt
apart_more kept (b ∷ others) a p q h plain apart =
    (named_more b.name.local kept a apart.0 (other_name a b p q plain.0 plain.1.0 (or_first _ _ h)), apart_more kept others a p q (or_second _ _ h) plain.1.1.1 apart.1)

distinct_by : (kept others : List AttributeText) → ArePlain others → Apart kept others → distinct kept others ≡ kept ++ others
distinct_by kept [] plain apart = sym (append-nil kept)
distinct_by kept (a ∷ others) plain apart =
    rw apart.0 (distinct_by (kept ++ a ∷ []) others plain.1.1.1 (apart_more kept others a plain.0 plain.1.0 plain.1.1.0 plain.1.1.1 apart.1) ∙ append_assoc kept (a ∷ []) others)

repeats_by : (kept others : List AttributeText) → ArePlain others → Apart kept others → repeats kept others ≡ false
repeats_by kept [] plain apart = refl
repeats_by kept (a ∷ others) plain apart =
    rw apart.0 (repeats_by (kept ++ a ∷ []) others plain.1.1.1 (apart_more kept others a plain.0 plain.1.0 plain.1.1.0 plain.1.1.1 apart.1))

apart_none : (others : List AttributeText) → Apart [] others
apart_none [] = tt
apart_none (a ∷ others) = (refl, apart_none others)

pub all_distinct : (attrs : List AttributeText) → ArePlain attrs → distinct [] attrs ≡ attrs
all_distinct attrs plain = distinct_by [] attrs plain (apart_none attrs)

pub no_duplicates : (attrs : List AttributeText) → ArePlain attrs → has_duplicates attrs ≡ false
no_duplicates attrs plain = repeats_by [] attrs plain (apart_none attrs)
