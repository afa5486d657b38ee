-- Tags are read back.
use Rattle.std.proofs.Common.{◌≡◌, ℕ, Bool, true, false, ◌||◌, ◌&&◌, List, [], ◌∷◌, ◌++◌, eqb, get_or, length, refl, sym, ap, ◌∙◌, arith, append_assoc, append-nil, Some, codes}
use Rattle.std.proofs.lemmas.Bool.{false≢true}
use Rattle.std.specs.Char.{is_ascii_alphabetic, is_ascii_whitespace}
use Rattle.std.specs.List.{flat_map}
use Rattle.h5_names.specs.AttributeText.{AttributeText}
use Rattle.h5_token.specs.TokenText.{TokenText, TagIs}
use Rattle.h5_token.specs.declared.states.RawKind.TheVariants.{Rcdata}
use Rattle.h5_token.specs.declared.tag.TagKind.TheVariants as kind
use Rattle.h5_markup.specs.Matching.{Found}
use Rattle.h5_markup.specs.Cuts.{is_in, before, from}
use Rattle.h5_markup.specs.Ending.{ends, place_after, up_to_end, walk}
use Rattle.h5_markup.specs.declared.cut.Class.TheVariants.{NameEnd, AttributeNameEnd}
use Rattle.h5_markup.specs.declared.ending.Inside.{Inside}
use Rattle.h5_markup.specs.declared.ending.Inside.TheVariants.{TagName, BeforeAttributeName, AttributeName, AttributeValueDoubleQuoted}
use Rattle.h5_markup.proofs.Endings.{end_found, walk_append}
use Rattle.h5_markup.proofs.Staying.{Stays, in_attribute_name, in_double_quotes, in_tag_name}
use Rattle.h5_markup.specs.Text.{name_of, text_of}
use Rattle.h5_markup.specs.Attributes.{attributes_of, distinct, has_duplicates}
use Rattle.h5_serialize.specs.Escape.{escape}
use Rattle.h5_serialize.specs.Writing.{attribute_written}
use Rattle.h5_plain_tokenizer.specs.declared.front.Mode.TheVariants.{Data, RawData}
use Rattle.h5_plain_tokenizer.specs.declared.front.Construct.TheVariants.{StartTag, EndTag}
use Rattle.h5_plain_tokenizer.specs.Front.{Whole, front}
use Rattle.h5_plain_tokenizer.specs.Tokens.{is_between, is_self_closing, last_is, token_of}
use Rattle.h5_plain_tokenizer.proofs.BareLaws.{end_begins, start_begins}
use Rattle.h5_plain_tokenizer.proofs.StepLaws.{front_concluded}
use Rattle.h5_builder_laws.specs.Plain.{ArePlain, end_tag, plain_doctype, start_tag}
use Rattle.h5_round_trip.specs.Readable.{AreNameBytes, AreReadable, IsName}
use Rattle.h5_round_trip.specs.Written.{tag_written}
use Rattle.h5_round_trip.proofs.CharLaws.{None, no_quote}
use Rattle.h5_round_trip.proofs.NameLaws.{before_all, before_stop, from_none, from_stop, in_attribute, in_tag, name_byte, name_read}
use Rattle.h5_round_trip.proofs.AttributeLaws.{all_distinct, attributes_read, no_duplicates, one_written, written_plain}

-- ---- where a tag ends

pub walk_none : (place : Inside) (stop : ℕ → Bool) (xs : List ℕ) → Stays place stop → None stop xs → walk place xs ≡ Some place
walk_none place stop [] s h = refl
walk_none place stop (x ∷ xs) s h = rw (s.goes_on x h.0, s.same x h.0) (walk_none place stop xs s h.1)

-- after the name, or after an attribute
abbrev inside : Bool → Inside
inside false = TagName
inside true = BeforeAttributeName

walk_name : (n : ℕ) (ns rest : List ℕ) → AreNameBytes (n ∷ ns) → walk BeforeAttributeName (n ∷ (ns ++ rest)) ≡ walk AttributeName rest
walk_name n ns rest h =
    let p = name_byte n h.0 in
    rw (p.greater, p.blank, p.slash) (walk_append AttributeName AttributeName ns rest (walk_none AttributeName (is_in AttributeNameEnd) ns in_attribute_name (in_attribute ns h.1)))

walk_value : (value rest : List ℕ) → None (λ x. eqb x 34) value → walk AttributeValueDoubleQuoted (value ++ 34 ∷ rest) ≡ walk BeforeAttributeName rest
walk_value value rest h = walk_append AttributeValueDoubleQuoted AttributeValueDoubleQuoted value (34 ∷ rest) (walk_none AttributeValueDoubleQuoted (λ x. eqb x 34) value in_double_quotes h)

walk_blank : (b : Bool) (rest : List ℕ) → walk (inside b) (32 ∷ rest) ≡ walk BeforeAttributeName rest
walk_blank false rest = refl
walk_blank true rest = refl

walk_one : (b : Bool) (name value : List ℕ) → IsName name → None (λ x. eqb x 34) value → walk (inside b) (one_written name value) ≡ Some BeforeAttributeName
walk_one b [] value n h = absurd n
walk_one b (x ∷ name) value n h = walk_blank b (x ∷ (name ++ 61 ∷ 34 ∷ (value ++ 34 ∷ []))) ∙ walk_name x name (61 ∷ 34 ∷ (value ++ 34 ∷ [])) n ∙ walk_value value [] h

abbrev has_some : Bool → List AttributeText → Bool
has_some b [] = b
has_some b (a ∷ attrs) = has_some true attrs

walk_attributes : (b : Bool) (attrs : List AttributeText) → ArePlain attrs → AreReadable attrs → walk (inside b) (flat_map attribute_written attrs) ≡ Some (inside (has_some b attrs))
walk_attributes b [] p r = refl
walk_attributes b (a ∷ attrs) p r =
    ap (λ l. walk (inside b) (l ++ flat_map attribute_written attrs)) (written_plain a p.1.0)
    ∙ walk_append (inside b) BeforeAttributeName (one_written a.name.local (escape true a.value)) (flat_map attribute_written attrs) (walk_one b a.name.local (escape true a.value) r.0 (no_quote a.value))
    ∙ walk_attributes true attrs p.1.1.1 r.1.1

ends_there : (b : Bool) → ends (inside b) 62 ≡ true
ends_there false = refl
ends_there true = refl

tag_ends : (name : List ℕ) (attrs : List AttributeText) (rest : List ℕ) → AreNameBytes name → ArePlain attrs → AreReadable attrs → up_to_end TagName (tag_written name attrs ++ 62 ∷ rest) ≡ Found (tag_written name attrs) rest
tag_ends name attrs rest n p r =
    end_found TagName (inside (has_some false attrs)) (tag_written name attrs) 62 rest
    (walk_append TagName TagName name (flat_map attribute_written attrs) (walk_none TagName (is_in NameEnd) name in_tag_name (in_tag name n)) ∙ walk_attributes false attrs p r)
    (ends_there (has_some false attrs))

-- ---- the token

pub record IsTagName (name : List ℕ) : Type 0 where
  pub first : ℕ
  pub more : List ℕ
  pub is : name ≡ first ∷ more
  pub letter : is_ascii_alphabetic first ≡ true
  pub bytes : AreNameBytes name

name_before : (name : List ℕ) (attrs : List AttributeText) → AreNameBytes name → ArePlain attrs → before (is_in NameEnd) (tag_written name attrs) ≡ name
name_before name [] n p = ap (before (is_in NameEnd)) (append-nil name) ∙ before_all (is_in NameEnd) name (in_tag name n)
name_before name (a ∷ attrs) n p =
    ap (λ l. before (is_in NameEnd) (name ++ (l ++ flat_map attribute_written attrs))) (written_plain a p.1.0)
    ∙ before_stop (is_in NameEnd) name 32 _ (in_tag name n) refl

attributes_behind : (name : List ℕ) (attrs : List AttributeText) → AreNameBytes name → ArePlain attrs → from (is_in NameEnd) (tag_written name attrs) ≡ flat_map attribute_written attrs
attributes_behind name [] n p = ap (from (is_in NameEnd)) (append-nil name) ∙ from_none (is_in NameEnd) name (in_tag name n)
attributes_behind name (a ∷ attrs) n p =
    ap (λ l. from (is_in NameEnd) (name ++ (l ++ flat_map attribute_written attrs))) (written_plain a p.1.0)
    ∙ from_stop (is_in NameEnd) name 32 _ (in_tag name n) refl
    ∙ ap (λ l. l ++ flat_map attribute_written attrs) (sym (written_plain a p.1.0))

last_of : (n : ℕ) (xs : List ℕ) (y : ℕ) (ys : List ℕ) → last_is n (xs ++ y ∷ ys) ≡ last_is n (y ∷ ys)
last_of n [] y ys = refl
last_of n (x ∷ []) y ys = refl
last_of n (x ∷ z ∷ xs) y ys = last_of n (z ∷ xs) y ys

last_none : (xs : List ℕ) → None (is_in NameEnd) xs → last_is 47 xs ≡ false
last_none [] h = refl
last_none (x ∷ []) h = slash (eqb x 62) (eqb x 47) (is_ascii_whitespace x) h.0
  where
    slash : (a b c : Bool) → a || (b || c) ≡ false → b ≡ false
    slash true b c e = absurd (false≢true (sym e))
    slash false true c e = e
    slash false false c e = refl
last_none (x ∷ y ∷ xs) h = last_none (y ∷ xs) h.1

-- with bytes before it, an attribute ends in a quote
last_quote : (xs name value : List ℕ) → last_is 47 (xs ++ one_written name value) ≡ false
last_quote xs name value =
    last_of 47 xs 32 (name ++ 61 ∷ 34 ∷ (value ++ 34 ∷ []))
    ∙ last_of 47 (32 ∷ name) 61 (34 ∷ (value ++ 34 ∷ []))
    ∙ last_of 47 (61 ∷ 34 ∷ value) 34 []

last_attributes : (xs : List ℕ) (attrs : List AttributeText) → last_is 47 xs ≡ false → ArePlain attrs → last_is 47 (xs ++ flat_map attribute_written attrs) ≡ false
last_attributes xs [] h p = ap (last_is 47) (append-nil xs) ∙ h
last_attributes xs (a ∷ attrs) h p =
    ap (λ l. last_is 47 (xs ++ (l ++ flat_map attribute_written attrs))) (written_plain a p.1.0)
    ∙ ap (last_is 47) (sym (append_assoc xs (one_written a.name.local (escape true a.value)) (flat_map attribute_written attrs)))
    ∙ last_attributes (xs ++ one_written a.name.local (escape true a.value)) attrs (last_quote xs a.name.local (escape true a.value)) p.1.1.1

not_closing : (name : List ℕ) (attrs : List AttributeText) → AreNameBytes name → ArePlain attrs → is_self_closing (tag_written name attrs) ≡ false
not_closing name attrs n p = ap (λ b. b && is_between (place_after TagName (tag_written name attrs))) (last_attributes name attrs (last_none name (in_tag name n)) p)

abbrev made : List ℕ → Bool → List AttributeText → Bool → TokenText
made name closing attrs duplicate = TagIs (record { kind = kind.StartTag; name = name; self_closing = closing; attrs = attrs; had_duplicate_attributes = duplicate })

start_made : (name : List ℕ) (attrs : List AttributeText) → AreNameBytes name → ArePlain attrs → AreReadable attrs → token_of StartTag (tag_written name attrs) ≡ start_tag name attrs
start_made name attrs n p r =
    let back = ap attributes_of (attributes_behind name attrs n p) ∙ attributes_read attrs p r in
    (λ i. made (name_of (name_before name attrs n p i)) (not_closing name attrs n p i) (distinct [] (back i)) (has_duplicates (back i)))
    ∙ (λ i. made (name_read name n i) false (all_distinct attrs p i) (no_duplicates attrs p i))

end_made : (name : List ℕ) → AreNameBytes name → token_of EndTag name ≡ end_tag name
end_made name n = ap (λ l. end_tag (name_of l)) (before_all (is_in NameEnd) name (in_tag name n)) ∙ ap end_tag (name_read name n)

-- ---- at the start

-- a start tag is read back
pub start_read : (last : List ℕ) (foreign : Bool) (name : List ℕ) (attrs : List AttributeText) (rest : List ℕ) → IsTagName name → ArePlain attrs → AreReadable attrs → front Data last foreign (60 ∷ (tag_written name attrs ++ 62 ∷ rest)) ≡ Found (Whole (start_tag name attrs)) rest
start_read last foreign name attrs rest t p r =
    let inner = tag_written name attrs ++ 62 ∷ rest in
    let behind = (t.more ++ flat_map attribute_written attrs) ++ 62 ∷ rest in
    let split : inner ≡ t.first ∷ behind = ap (λ l. (l ++ flat_map attribute_written attrs) ++ 62 ∷ rest) t.is in
    let begins = start_begins foreign (60 ∷ inner) inner (omega arith) refl refl (omega (arith, ap length split)) (ap (λ l. is_ascii_alphabetic (get_or l 0 0)) split ∙ t.letter) in
    front_concluded Data last foreign (60 ∷ inner) inner (tag_written name attrs) rest StartTag begins (tag_ends name attrs rest t.bytes p r)
    ∙ ap (λ x. Found (Whole x) rest) (start_made name attrs t.bytes p r)

name_ends : (name rest : List ℕ) → AreNameBytes name → up_to_end TagName (name ++ 62 ∷ rest) ≡ Found name rest
name_ends name rest n = end_found TagName TagName name 62 rest (walk_none TagName (is_in NameEnd) name in_tag_name (in_tag name n)) refl

-- an end tag is read back
pub end_read : (last : List ℕ) (foreign : Bool) (name rest : List ℕ) → IsTagName name → front Data last foreign (60 ∷ 47 ∷ (name ++ 62 ∷ rest)) ≡ Found (Whole (end_tag name)) rest
end_read last foreign name rest t =
    let inner = name ++ 62 ∷ rest in
    let split : inner ≡ t.first ∷ (t.more ++ 62 ∷ rest) = ap (λ l. l ++ 62 ∷ rest) t.is in
    let begins = end_begins foreign (60 ∷ 47 ∷ inner) inner (omega arith) refl refl refl (omega (arith, ap length split)) (ap (λ l. is_ascii_alphabetic (get_or l 0 0)) split ∙ t.letter) in
    front_concluded Data last foreign (60 ∷ 47 ∷ inner) inner name rest EndTag begins (name_ends name rest t.bytes)
    ∙ ap (λ x. Found (Whole x) rest) (end_made name t.bytes)

-- the end tag of a title, after its text
pub title_end_read : (foreign : Bool) (rest : List ℕ) → front (RawData Rcdata) (codes "title") foreign (codes "</title>" ++ rest) ≡ Found (Whole (end_tag (codes "title"))) rest
unfolding text_of
title_end_read foreign rest = refl

-- the doctype
pub doctype_read : (last : List ℕ) (foreign : Bool) (rest : List ℕ) → front Data last foreign (codes "<!DOCTYPE html>" ++ rest) ≡ Found (Whole plain_doctype) rest
unfolding text_of
doctype_read last foreign rest = refl
