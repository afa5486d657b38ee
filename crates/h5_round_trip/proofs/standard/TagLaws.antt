-- Tags are read back, row by row.
use Rattle.std.proofs.Common.{◌≡◌, ℕ, Bool, true, false, List, [], ◌∷◌, ◌++◌, if◌then◌else◌, Option, Some, None as Nothing, eqb, codes, refl, ap, sym, subst, ◌∙◌, append_assoc, append-nil, arith}
use Rattle.std.proofs.lemmas.Bool.{false≢true}
use Rattle.std.proofs.lemmas.Bool.Decides.{nat_tests}
use Rattle.std.specs.Char.{is_ascii_alphabetic, is_ascii_whitespace}
use Rattle.std.specs.List.{flat_map}
use Rattle.h5_names.specs.AttributeText.{AttributeText}
use Rattle.h5_token.specs.TokenText.{TokenText}
use Rattle.h5_token.specs.declared.tag.TagKind.{TagKind}
use Rattle.h5_token.specs.declared.tag.TagKind.TheVariants.{EndTag, StartTag}
use Rattle.h5_markup.specs.Attributes.{attribute_named, is_named_in, repeats}
use Rattle.h5_serialize.specs.Escape.{escape}
use Rattle.h5_serialize.specs.Writing.{attribute_written}
use Rattle.h5_tokenizer_spec.specs.declared.kinds.Quote.TheVariants.{Double}
use Rattle.h5_tokenizer_spec.specs.declared.kinds.TextKind.TheVariants.{Data, Rcdata}
use Rattle.h5_tokenizer_spec.specs.declared.kinds.RawTextKind.TheVariants as raw
use Rattle.h5_tokenizer_spec.specs.Construction.{Attribute, Tag, completed, new_doctype, with_attribute}
use Rattle.h5_tokenizer_spec.specs.Machine.{turn}
use Rattle.h5_tokenizer_spec.specs.Reading.{ReaderPlace, is_dropped}
use Rattle.h5_tokenizer_spec.specs.ReferenceTable.{references}
use Rattle.h5_tokenizer_spec.specs.Signs.{is_blank}
use Rattle.h5_tokenizer_spec.specs.States.{AfterAttributeValueQuoted, AttributeName, AttributeValue, BeforeAttributeName, DoctypeName, EndTagOpen, Quoted, RawEndTagName, State, TagName, TagOpen, Text}
use Rattle.h5_tokenizer_spec.specs.Turn.{Reconsumed, Consumed, Emitted, hand_complete}
use Rattle.h5_builder_laws.specs.Plain.{ArePlain, end_tag, plain_doctype, start_tag}
use Rattle.h5_round_trip.specs.Readable.{AreNameBytes, AreReadable, IsName, IsReadable}
use Rattle.h5_round_trip.specs.Written.{tag_written}
use Rattle.h5_round_trip.proofs.AttributeLaws.{no_duplicates, written_plain}
use Rattle.h5_round_trip.proofs.NameLaws.{NameByte, name_byte}
use Rattle.h5_round_trip.proofs.TagLaws.{IsTagName}
use Rattle.h5_round_trip.proofs.standard.ReferenceLaws.{InValue}
use Rattle.h5_round_trip.proofs.standard.QuietLaws.{PassesQuietly, quiet, quietly_more, row_at}
use Rattle.h5_round_trip.proofs.standard.RunLaws.{IsIn, Moves, again_by, row_there, goes_by, kept, moves_then, rows, rows_move, stays}
use Rattle.h5_round_trip.proofs.standard.TextLaws.{text_reads}

-- ---- names

no_blank : (x : ℕ) → is_ascii_whitespace x ≡ false → is_blank x ≡ false
no_blank x h = grind (arith, nat_tests)

-- a tag so far
abbrev pub tag_at : TagKind → List ℕ → List AttributeText → Option Attribute → Tag
tag_at kind name attrs current = record { kind = kind; name = name; self_closing = false; attrs = attrs; duplicates = false; current = current }

abbrev attribute_at : List ℕ → List ℕ → Option Attribute
attribute_at name value = Some (record { name = name; value = value })

tag_name_row : (last : List ℕ) (kind : TagKind) (done : List ℕ) (x : ℕ) → NameByte x → turn references last (TagName (tag_at kind done [] Nothing)) x ≡ quiet (Consumed [] (TagName (tag_at kind (done ++ x ∷ []) [] Nothing)))
tag_name_row last kind done x n = rw (no_blank x n.blank, n.slash, n.greater, n.nul, n.lower) refl

tag_name_moves : (p : ReaderPlace) (kind : TagKind) (done xs ys : List ℕ) → AreNameBytes xs → IsIn p (TagName (tag_at kind done [] Nothing)) → Moves p (xs ++ ys) [] (TagName (tag_at kind (done ++ xs) [] Nothing)) ys
tag_name_moves p kind done [] ys names h = rw append-nil (stays p (TagName (tag_at kind done [] Nothing)) ys h)
tag_name_moves p kind done (x ∷ xs) ys names h =
    let n = name_byte x names.0 in
    subst (λ name. Moves p (x ∷ (xs ++ ys)) [] (TagName (tag_at kind name [] Nothing)) ys) (append_assoc done (x ∷ []) xs)
    (moves_then (goes_by p (TagName (tag_at kind done [] Nothing)) (TagName (tag_at kind (done ++ x ∷ []) [] Nothing)) x [] (xs ++ ys) h n.cr (tag_name_row p.last kind done x n))
    (λ q i l. tag_name_moves q kind (done ++ x ∷ []) xs ys names.1 i))

abbrev pub after_name : TagKind → List ℕ → State
after_name kind name = TagName (tag_at kind name [] Nothing)

letter_begins : (last : List ℕ) (x : ℕ) → is_ascii_alphabetic x ≡ true → turn references last TagOpen x ≡ quiet (Reconsumed [] (TagName (tag_at StartTag [] [] Nothing)))
letter_begins last x letter =
    let mark : eqb x 33 ≡ false = grind (arith, nat_tests) in
    let slash : eqb x 47 ≡ false = grind (arith, nat_tests) in
    rw (mark, slash, letter) refl

letter_no_return : (x : ℕ) → is_ascii_alphabetic x ≡ true → eqb x 13 ≡ false
letter_no_return x letter = grind (arith, nat_tests)

-- a tag is opened
opened : (p : ReaderPlace) (name ys : List ℕ) → IsTagName name → IsIn p (Text Data) → Moves p (60 ∷ (name ++ ys)) [] (after_name StartTag name) ys
opened p name ys t h =
    let letters : name ++ ys ≡ t.first ∷ (t.more ++ ys) = ap (λ l. l ++ ys) t.is in
    moves_then (rows_move p (Text Data) TagOpen (60 ∷ []) (name ++ ys) h refl)
    (λ q i l. moves_then
    (subst (λ zs. Moves q zs [] (TagName (tag_at StartTag [] [] Nothing)) zs) (sym letters)
    (again_by q TagOpen (TagName (tag_at StartTag [] [] Nothing)) t.first [] (t.more ++ ys) i (letter_no_return t.first t.letter) (letter_begins q.last t.first t.letter)))
    (λ r j k. tag_name_moves r StartTag [] name ys t.bytes j))

end_letter_begins : (last : List ℕ) (x : ℕ) → is_ascii_alphabetic x ≡ true → turn references last EndTagOpen x ≡ quiet (Reconsumed [] (TagName (tag_at EndTag [] [] Nothing)))
end_letter_begins last x letter = rw letter refl

pub end_opened : (p : ReaderPlace) (name ys : List ℕ) → IsTagName name → IsIn p (Text Data) → Moves p (60 ∷ 47 ∷ (name ++ ys)) [] (after_name EndTag name) ys
end_opened p name ys t h =
    let letters : name ++ ys ≡ t.first ∷ (t.more ++ ys) = ap (λ l. l ++ ys) t.is in
    moves_then (rows_move p (Text Data) EndTagOpen (60 ∷ 47 ∷ []) (name ++ ys) h refl)
    (λ q i l. moves_then
    (subst (λ zs. Moves q zs [] (TagName (tag_at EndTag [] [] Nothing)) zs) (sym letters)
    (again_by q EndTagOpen (TagName (tag_at EndTag [] [] Nothing)) t.first [] (t.more ++ ys) i (letter_no_return t.first t.letter) (end_letter_begins q.last t.first t.letter)))
    (λ r j k. tag_name_moves r EndTag [] name ys t.bytes j))

-- ---- attributes

-- after the tag's name, or after a value
data Before : Type 0 where
  AfterName : Before
  AfterValue : Before

abbrev state_before : Before → Tag → State
state_before AfterName tag = TagName tag
state_before AfterValue tag = AfterAttributeValueQuoted tag

blank_row : (last : List ℕ) (b : Before) (tag : Tag) → turn references last (state_before b tag) 32 ≡ quiet (Consumed [] (BeforeAttributeName tag))
blank_row last AfterName tag = refl
blank_row last AfterValue tag = refl

first_row : (last : List ℕ) (tag : Tag) (x : ℕ) → NameByte x → turn references last (BeforeAttributeName tag) x ≡ quiet (Reconsumed [] (AttributeName (with_attribute [] tag)))
first_row last tag x n = rw (no_blank x n.blank, n.slash, n.greater, n.equals) refl

attribute_row : (last : List ℕ) (name : List ℕ) (done : List AttributeText) (so_far : List ℕ) (x : ℕ) → NameByte x
    → turn references last (AttributeName (tag_at StartTag name done (attribute_at so_far []))) x ≡ quiet (Consumed [] (AttributeName (tag_at StartTag name done (attribute_at (so_far ++ x ∷ []) []))))
attribute_row last name done so_far x n = rw (no_blank x n.blank, n.slash, n.greater, n.equals, n.nul, n.lower, n.double, n.single, n.less) refl

attribute_name_moves : (p : ReaderPlace) (name : List ℕ) (done : List AttributeText) (so_far xs ys : List ℕ) → AreNameBytes xs → IsIn p (AttributeName (tag_at StartTag name done (attribute_at so_far [])))
    → Moves p (xs ++ ys) [] (AttributeName (tag_at StartTag name done (attribute_at (so_far ++ xs) []))) ys
attribute_name_moves p name done so_far [] ys names h = rw append-nil (stays p (AttributeName (tag_at StartTag name done (attribute_at so_far []))) ys h)
attribute_name_moves p name done so_far (x ∷ xs) ys names h =
    let n = name_byte x names.0 in
    subst (λ l. Moves p (x ∷ (xs ++ ys)) [] (AttributeName (tag_at StartTag name done (attribute_at l []))) ys) (append_assoc so_far (x ∷ []) xs)
    (moves_then (goes_by p (AttributeName (tag_at StartTag name done (attribute_at so_far []))) (AttributeName (tag_at StartTag name done (attribute_at (so_far ++ x ∷ []) []))) x [] (xs ++ ys) h n.cr (attribute_row p.last name done so_far x n))
    (λ q i l. attribute_name_moves q name done (so_far ++ x ∷ []) xs ys names.1 i))

-- the '=' after a name that is new, and the quote
equals_rows : (last name : List ℕ) (done : List AttributeText) (local : List ℕ) → is_named_in local done ≡ false
    → rows last (61 ∷ 34 ∷ []) (Some (AttributeName (tag_at StartTag name done (attribute_at local [])))) ≡ Some (AttributeValue (Quoted Double) (tag_at StartTag name done (attribute_at local [])))
equals_rows last name done local new = rw new refl

abbrev written_so : List ℕ → List ℕ → List ℕ → List ℕ
written_so local value ys = 32 ∷ (local ++ 61 ∷ 34 ∷ (escape true value ++ 34 ∷ ys))

-- one attribute
attribute_moves : (p : ReaderPlace) (b : Before) (tag : Tag) (name : List ℕ) (done : List AttributeText) (local value ys : List ℕ) → completed tag ≡ tag_at StartTag name done Nothing → is_named_in local done ≡ false → IsName local → IsReadable value → IsIn p (state_before b tag)
    → Moves p (written_so local value ys) [] (state_before AfterValue (tag_at StartTag name done (attribute_at local value))) ys
attribute_moves p b tag name done [] value ys complete new names readable h = absurd names
attribute_moves p b tag name done (x ∷ local) value ys complete new names readable h =
    let behind = 61 ∷ 34 ∷ (escape true value ++ 34 ∷ ys) in
    let named = tag_at StartTag name done (attribute_at (x ∷ local) []) in
    let begun = tag_at StartTag name done (attribute_at [] []) in
    let n = name_byte x names.0 in
    let begins : AttributeName (with_attribute [] tag) ≡ AttributeName begun = ap (λ (t : Tag). AttributeName (record t { current = attribute_at [] [] })) complete in
    moves_then (goes_by p (state_before b tag) (BeforeAttributeName tag) 32 [] ((x ∷ local) ++ behind) h refl (blank_row p.last b tag))
    (λ q i l. moves_then (again_by q (BeforeAttributeName tag) (AttributeName begun) x [] (local ++ behind) i n.cr (first_row q.last tag x n ∙ ap (λ t. quiet (Reconsumed [] t)) begins))
    (λ r j k. moves_then (attribute_name_moves r name done [] (x ∷ local) behind names j)
    (λ s u m. moves_then (rows_move s (AttributeName named) (AttributeValue (Quoted Double) named) (61 ∷ 34 ∷ []) (escape true value ++ 34 ∷ ys) u (equals_rows s.last name done (x ∷ local) new))
    (λ v w o. moves_then (text_reads v (InValue named) value 34 ys readable w)
    (λ a c d. rows_move a (AttributeValue (Quoted Double) (tag_at StartTag name done (attribute_at (x ∷ local) value))) (AfterAttributeValueQuoted (tag_at StartTag name done (attribute_at (x ∷ local) value))) (34 ∷ []) ys c refl)))))

-- all of a tag's attributes were read
record AttributesRead (p : ReaderPlace) (name : List ℕ) (all : List AttributeText) (xs ys : List ℕ) : Type 0 where
  before : Before
  tag : Tag
  complete : completed tag ≡ tag_at StartTag name all Nothing
  moves : Moves p xs [] (state_before before tag) ys

read_then : {p : ReaderPlace} {name : List ℕ} {all : List AttributeText} {xs ys zs : List ℕ} {s : State} → Moves p xs [] s ys → ((q : ReaderPlace) → IsIn q s → AttributesRead q name all ys zs) → AttributesRead p name all xs zs
read_then first more =
    let m = more first.place first.is_in in
    record {
      before = m.before;
      tag = m.tag;
      complete = m.complete;
      moves = record { place = m.moves.place; passes = quietly_more first.passes m.moves.passes; is_in = m.moves.is_in; last = m.moves.last ∙ first.last };
    }

no_first : (b c : Bool) → (if b then true else c) ≡ false → (b ≡ false) × (c ≡ false)
no_first true c e = absurd (false≢true (sym e))
no_first false c e = (refl, e)

-- an attribute that is complete
kept_so : (name : List ℕ) (done : List AttributeText) (a : AttributeText) → a.name.prefix ≡ Nothing → a.name.ns ≡ [] → is_named_in a.name.local done ≡ false
    → completed (tag_at StartTag name done (attribute_at a.name.local a.value)) ≡ tag_at StartTag name (done ++ a ∷ []) Nothing
kept_so name done a p q new =
    let same : attribute_named a.name.local a.value ≡ a = (λ i. record { name = record { prefix = sym p i; ns = sym q i; local = a.name.local }; value = a.value }) in
    rw new (ap (λ x. tag_at StartTag name (done ++ x ∷ []) Nothing) same)

written_one : (a : AttributeText) (others ys : List ℕ) → a.name.ns ≡ [] → (attribute_written a ++ others) ++ ys ≡ written_so a.name.local a.value (others ++ ys)
written_one a others ys h =
    let local = a.name.local in
    let value = escape true a.value in
    append_assoc (attribute_written a) others ys ∙ ap (λ l. l ++ (others ++ ys)) (written_plain a h)
    ∙ ap (λ l. 32 ∷ l) (append_assoc local (61 ∷ 34 ∷ (value ++ 34 ∷ [])) (others ++ ys) ∙ ap (λ l. local ++ 61 ∷ 34 ∷ l) (append_assoc value (34 ∷ []) (others ++ ys)))

attributes_move : (p : ReaderPlace) (b : Before) (tag : Tag) (name : List ℕ) (done attrs : List AttributeText) (ys : List ℕ) → completed tag ≡ tag_at StartTag name done Nothing → ArePlain attrs → AreReadable attrs → repeats done attrs ≡ false → IsIn p (state_before b tag)
    → AttributesRead p name (done ++ attrs) (flat_map attribute_written attrs ++ ys) ys
attributes_move p b tag name done [] ys complete plain readable new h =
    record { before = b; tag = tag; complete = complete ∙ ap (λ l. tag_at StartTag name l Nothing) (sym (append-nil done)); moves = stays p (state_before b tag) ys h }
attributes_move p b tag name done (a ∷ attrs) ys complete plain readable new h =
    let others = flat_map attribute_written attrs in
    let next = tag_at StartTag name done (attribute_at a.name.local a.value) in
    let n = no_first (is_named_in a.name.local done) (repeats (done ++ a ∷ []) attrs) new in
    subst (λ all. AttributesRead p name all ((attribute_written a ++ others) ++ ys) ys) (append_assoc done (a ∷ []) attrs)
    (subst (λ xs. AttributesRead p name ((done ++ a ∷ []) ++ attrs) xs ys) (sym (written_one a others ys plain.1.0))
    (read_then (attribute_moves p b tag name done a.name.local a.value (others ++ ys) complete n.0 readable.0 readable.1.0 h)
    (λ q i. attributes_move q AfterValue next name (done ++ a ∷ []) attrs ys (kept_so name done a plain.0 plain.1.0 n.0) plain.1.1.1 readable.1.1 n.1 i)))

-- ---- whole tags

-- bytes are passed without errors, and at one after them this token is emitted
pub record HandsToken (p : ReaderPlace) (xs : List ℕ) (token : TokenText) (ys : List ℕ) : Type 0 where
  pub place : ReaderPlace
  pub byte : ℕ
  pub passes : PassesQuietly p xs [] place (byte ∷ ys)
  pub kept : is_dropped place byte ≡ false
  pub row : row_at place byte ≡ quiet (Emitted token (Text Data))
  pub no_return : eqb byte 13 ≡ false
  pub last : place.last ≡ p.last

pub handed : (p : ReaderPlace) (xs : List ℕ) (s : State) (byte : ℕ) (token : TokenText) (ys : List ℕ) → eqb byte 13 ≡ false → ((last : List ℕ) → last ≡ p.last → turn references last s byte ≡ quiet (Emitted token (Text Data))) → Moves p xs [] s (byte ∷ ys) → HandsToken p xs token ys
handed p xs s byte token ys c row m = record {
  place = m.place;
  byte = byte;
  passes = m.passes;
  kept = kept m.place s byte m.is_in;
  row = row_there m.place s byte (quiet (Emitted token (Text Data))) m.is_in c (row m.place.last m.last);
  no_return = c;
  last = m.last;
}

greater_row : (last : List ℕ) (b : Before) (tag : Tag) (name : List ℕ) (all : List AttributeText) → completed tag ≡ tag_at StartTag name all Nothing
    → turn references last (state_before b tag) 62 ≡ quiet (Emitted (start_tag name all) (Text Data))
greater_row last AfterName tag name all complete = ap hand_complete complete
greater_row last AfterValue tag name all complete = ap hand_complete complete

pub start_handed : (p : ReaderPlace) (name : List ℕ) (attrs : List AttributeText) (ys : List ℕ) → IsTagName name → ArePlain attrs → AreReadable attrs → IsIn p (Text Data) → HandsToken p (60 ∷ (tag_written name attrs ++ 62 ∷ ys)) (start_tag name attrs) ys
start_handed p name attrs ys t plain readable h =
    let written = flat_map attribute_written attrs in
    let read : AttributesRead p name attrs (60 ∷ (name ++ (written ++ 62 ∷ ys))) (62 ∷ ys) =
    read_then (opened p name (written ++ 62 ∷ ys) t h)
    (λ q i. attributes_move q AfterName (tag_at StartTag name [] Nothing) name [] attrs (62 ∷ ys) refl plain readable (no_duplicates attrs plain) i) in
    subst (λ xs. HandsToken p (60 ∷ xs) (start_tag name attrs) ys) (sym (append_assoc name written (62 ∷ ys)))
    (handed p (60 ∷ (name ++ (written ++ 62 ∷ ys))) (state_before read.before read.tag) 62 (start_tag name attrs) ys refl
    (λ last e. greater_row last read.before read.tag name attrs read.complete) read.moves)

pub end_handed : (p : ReaderPlace) (name ys : List ℕ) → IsTagName name → IsIn p (Text Data) → HandsToken p (60 ∷ 47 ∷ (name ++ 62 ∷ ys)) (end_tag name) ys
end_handed p name ys t h =
    handed p (60 ∷ 47 ∷ (name ++ 62 ∷ ys)) (after_name EndTag name) 62 (end_tag name) ys refl (λ last e. refl) (end_opened p name (62 ∷ ys) t h)

-- the end tag of a title, after its text
title_end_rows : rows (codes "title") (codes "</title") (Some (Text Rcdata)) ≡ Some (RawEndTagName raw.Rcdata (codes "title"))
title_end_rows = refl

title_end_row : turn references (codes "title") (RawEndTagName raw.Rcdata (codes "title")) 62 ≡ quiet (Emitted (end_tag (codes "title")) (Text Data))
title_end_row = refl

pub title_end_handed : (p : ReaderPlace) (ys : List ℕ) → IsIn p (Text Rcdata) → p.last ≡ codes "title" → HandsToken p (codes "</title>" ++ ys) (end_tag (codes "title")) ys
title_end_handed p ys h l =
    let behind_name = RawEndTagName raw.Rcdata (codes "title") in
    handed p (codes "</title>" ++ ys) behind_name 62 (end_tag (codes "title")) ys refl
    (λ last e. ap (λ k. turn references k behind_name 62) (e ∙ l) ∙ title_end_row)
    (rows_move p (Text Rcdata) behind_name (codes "</title") (62 ∷ ys) h (ap (λ k. rows k (codes "</title") (Some (Text Rcdata))) l ∙ title_end_rows))

-- the doctype
pub doctype_handed : (p : ReaderPlace) (ys : List ℕ) → IsIn p (Text Data) → HandsToken p (codes "<!DOCTYPE html>" ++ ys) plain_doctype ys
doctype_handed p ys h =
    let named = DoctypeName (new_doctype (codes "html")) in
    handed p (codes "<!DOCTYPE html>" ++ ys) named 62 plain_doctype ys refl (λ last e. refl)
    (rows_move p (Text Data) named (codes "<!DOCTYPE html") (62 ∷ ys) h refl)
