-- What a cleaner writes for the calls of a tree is the text of what is left of it.
use Rattle.std.proofs.Common.{◌≡◌, ◌⊎◌, ◌∙◌, ◌&&◌, ◌||◌, ◌==◌, ◌++◌, ◌∷◌, not, Bool, true, false, List, [], ℕ, ap, refl, sym, inl, inr, codes, if◌then◌else◌, append_assoc, Some, None, chars, IsUtf8}
use Rattle.std.specs.List.{flat_map}
use Rattle.std.specs.Option.{option_map_or}
use Rattle.std.specs.Str.{is_utf8}
use Rattle.std.proofs.lemmas.Bool.{false≢true}
use Rattle.std.proofs.lemmas.Grind.{flat_map-append}
use Rattle.std.proofs.lemmas.Str.{chars-append, chars-nil}
use Rattle.h5_names.specs.AttributeText.{AttributeText}
use Rattle.h5_names.specs.declared.qualified.QualName.{QualName}
use Rattle.h5_tables.specs.TagSets.{is_one_of, void_names}
use Rattle.h5_serialize.specs.Call.{Call, EndOf, StartOf, TextOf}
use Rattle.h5_serialize.specs.Escape.{escape, escape_char}
use Rattle.h5_serialize.specs.Names.{is_html}
use Rattle.h5_serialize.specs.Openers.{are_hidden, plain, start_of}
use Rattle.h5_serialize.specs.Standing.{Standing, Working, standing_after, text_written}
use Rattle.h5_serialize.specs.Walk.{text_of_each}
use Rattle.h5_serialize.specs.Writing.{attribute_written, end_tag, start_tag}
use Rattle.h5_serialize.specs.declared.openers.Opener.{Opener}
use Rattle.h5_builder_laws.specs.Plain.{ElementThen, End, Nodes, TextThen, as_written, doubled, held_as_written, with_doubled}
use Rattle.h5_round_trip.specs.Readable.{IsReadable}
use Rattle.h5_round_trip.proofs.DoubledLaws.{doubled_reads}
use Rattle.h5_round_trip.specs.Written.{tag_written, written_before, written_fragment}
use Rattle.h5_clean.specs.Calls.{State, after_call, behind_front, call_of, first_state, front_inside, is_nothing, place_among, text_of}
use Rattle.h5_clean.specs.Kinds.{kind_of}
use Rattle.h5_clean.specs.Pass.{cleaned, first_place, is_dropped, is_let, left_before, put_text, text_then, with_first}
use Rattle.h5_clean.specs.Places.{fits, fits_at, inside, nowhere}
use Rattle.h5_clean.specs.Policies.{Rules, attributes_left}
use Rattle.h5_clean.specs.Source as source
use Rattle.h5_clean.specs.Source.{CommentThen, DoctypeThen, Done, InstructionThen, Source, calls_before}
use Rattle.h5_clean.specs.Texts.{may_stand, readable, text_left, without_marks}
use Rattle.h5_clean.specs.declared.cleaner.Front.{Front}
use Rattle.h5_clean.specs.declared.cleaner.Front.TheVariants as front
use Rattle.h5_clean.specs.declared.elements.OpenElement.{OpenElement}
use Rattle.h5_clean.specs.declared.kind.Kind.{Kind}
use Rattle.h5_clean.specs.declared.kind.Kind.TheVariants as kind
use Rattle.h5_clean.specs.declared.place.Place.{Place}
use Rattle.h5_clean.specs.declared.place.Spot.{Spot}
use Rattle.h5_clean.specs.declared.place.Spot.TheVariants as spot
use Rattle.h5_clean.proofs.KindLaws.{is_pre_kind, pre_named}
use Rattle.h5_clean.proofs.RowLaws.{IsWritten, both_of, is_void_kind, written_so}
use Rattle.h5_clean.proofs.TextLaws.{marks_append, readable_reads, reads_without_marks}

-- a cleaner over a serializer that has openers
abbrev at : Rules → List OpenElement → Front → Standing → State
at r es b m = record { rules = r; elements = es; front = b; standing = m }

abbrev texts : State → List Call → List ℕ
texts = text_of_each after_call text_of

-- nodes of which the first text stands there
abbrev with_front : Front → Nodes → Nodes
with_front front.Nothing ns = ns
with_front front.Newlines ns = with_first doubled ns
with_front front.Marks ns = with_first without_marks ns

-- and their text
abbrev written_if : Front → Nodes → List ℕ → List ℕ
written_if b ns tail = written_before (with_front b (as_written ns)) tail

-- ---- texts

escape_none : escape false [] ≡ []
escape_none = ap (flat_map (escape_char false)) chars-nil

escape_append : (t u : List ℕ) → IsUtf8 t → escape false (t ++ u) ≡ escape false t ++ escape false u
escape_append t u h = ap (flat_map (escape_char false)) (chars-append t u h) ∙ flat_map-append (escape_char false) (chars t) (chars u)

doubled_append : (t u : List ℕ) → doubled (t ++ u) ≡ (if is_nothing (doubled t) then doubled u else doubled t ++ u)
doubled_append [] u = refl
doubled_append (b ∷ t) u = by (b == 10)
  where
    by : (c : Bool) → (if c then 10 ∷ b ∷ (t ++ u) else b ∷ (t ++ u)) ≡ (if is_nothing (if c then 10 ∷ b ∷ t else b ∷ t) then doubled u else (if c then 10 ∷ b ∷ t else b ∷ t) ++ u)
    by true = refl
    by false = refl

-- what is left of a text is UTF-8
left_utf8 : (s : Spot) (text : List ℕ) → IsUtf8 (text_left s text)
left_utf8 s text = by (is_utf8 text) (may_stand s (readable text)) refl
  where
    by : (u m : Bool) → is_utf8 text ≡ u → IsUtf8 (if u && m then readable text else [])
    by true true e = (readable_reads text e).utf8
    by true false e = ([], (refl, refl))
    by false m e = ([], (refl, refl))

front_utf8 : (b : Front) (s : Spot) (text : List ℕ) → IsUtf8 (behind_front b (text_left s text))
front_utf8 b s text = by (is_utf8 text) (may_stand s (readable text)) refl
  where
    of : (c : Front) (t : List ℕ) → IsReadable t → IsUtf8 (behind_front c t)
    of front.Nothing t h = h.utf8
    of front.Newlines t h = (doubled_reads t h).utf8
    of front.Marks t h = (reads_without_marks t h).utf8

    none : (c : Front) → IsUtf8 (behind_front c [])
    none front.Nothing = ([], (refl, refl))
    none front.Newlines = ([], (refl, refl))
    none front.Marks = ([], (refl, refl))

    by : (u m : Bool) → is_utf8 text ≡ u → IsUtf8 (behind_front b (if u && m then readable text else []))
    by true true e = of b (readable text) (readable_reads text e)
    by true false e = none b
    by false m e = none b

-- a text before nodes is written before them
put_written : (t : List ℕ) (ns : Nodes) (tail : List ℕ) → IsUtf8 t → written_before (put_text t ns) tail ≡ escape false t ++ written_before ns tail
put_written [] ns tail h = ap (λ l. l ++ written_before ns tail) (sym escape_none)
put_written (b ∷ t) End tail h = refl
put_written (b ∷ t) (TextThen u rest) tail h =
    ap (λ l. l ++ written_before rest tail) (escape_append (b ∷ t) u h) ∙ append_assoc (escape false (b ∷ t)) (escape false u) (written_before rest tail)
put_written (b ∷ t) (ElementThen name attrs inner rest) tail h = refl

-- also at a position where a text loses its start
module _ (change : List ℕ → List ℕ) (none : change [] ≡ []) (append : (t u : List ℕ) → IsUtf8 t → change (t ++ u) ≡ (if is_nothing (change t) then change u else change t ++ u)) where
  abbrev keeps : Bool → Nodes → Nodes
  keeps c ns = if c then with_first change ns else ns

  then_element : (v : List ℕ) (name : List ℕ) (attrs : List AttributeText) (inner rest : Nodes) (tail : List ℕ)
      → written_before (text_then v (ElementThen name attrs inner rest)) tail ≡ escape false v ++ written_before (keeps (is_nothing v) (ElementThen name attrs inner rest)) tail
  then_element [] name attrs inner rest tail = ap (λ l. l ++ written_before (ElementThen name attrs inner rest) tail) (sym escape_none)
  then_element (c ∷ v) name attrs inner rest tail = refl

  then_end : (v tail : List ℕ) → written_before (text_then v End) tail ≡ escape false v ++ written_before (keeps (is_nothing v) End) tail
  then_end [] tail = ap (λ l. l ++ tail) (sym escape_none)
  then_end (c ∷ v) tail = refl

  then_text : (v u : List ℕ) (rest : Nodes) (tail : List ℕ) → IsUtf8 v
      → written_before (text_then (if is_nothing v then change u else v ++ u) rest) tail ≡ escape false v ++ written_before (keeps (is_nothing v) (TextThen u rest)) tail
  then_text [] u rest tail h = ap (λ l. l ++ written_before (text_then (change u) rest) tail) (sym escape_none)
  then_text (c ∷ v) u rest tail h = ap (λ l. l ++ written_before rest tail) (escape_append (c ∷ v) u h) ∙ append_assoc (escape false (c ∷ v)) (escape false u) (written_before rest tail)

  changed_written : (t : List ℕ) (ns : Nodes) (tail : List ℕ) → IsUtf8 t → IsUtf8 (change t)
      → written_before (with_first change (put_text t ns)) tail ≡ escape false (change t) ++ written_before (keeps (is_nothing (change t)) ns) tail
  changed_written [] ns tail h k =
      ap (λ l. l ++ written_before (with_first change ns) tail) (sym escape_none)
      ∙ ap (λ v. escape false v ++ written_before (keeps (is_nothing v) ns) tail) (sym none)
  changed_written (b ∷ t) End tail h k = then_end (change (b ∷ t)) tail
  changed_written (b ∷ t) (ElementThen name attrs inner rest) tail h k = then_element (change (b ∷ t)) name attrs inner rest tail
  changed_written (b ∷ t) (TextThen u rest) tail h k =
      ap (λ l. written_before (text_then l rest) tail) (append (b ∷ t) u h) ∙ then_text (change (b ∷ t)) u rest tail k

text_written_as : (b : Front) (t : List ℕ) (ns : Nodes) (tail : List ℕ) → IsUtf8 t → IsUtf8 (behind_front b t)
    → written_before (with_front b (put_text t ns)) tail ≡ escape false (behind_front b t) ++ written_before (with_front (if is_nothing (behind_front b t) then b else front.Nothing) ns) tail
text_written_as front.Nothing t ns tail h k = put_written t ns tail h ∙ ap (λ m. escape false t ++ written_before m tail) (same (is_nothing t))
  where
    same : (c : Bool) → ns ≡ with_front (if c then front.Nothing else front.Nothing) ns
    same true = refl
    same false = refl
text_written_as front.Newlines t ns tail h k =
    changed_written doubled refl (λ t u h. doubled_append t u) t ns tail h k ∙ ap (λ m. escape false (doubled t) ++ written_before m tail) (same (is_nothing (doubled t)))
  where
    same : (c : Bool) → (if c then with_first doubled ns else ns) ≡ with_front (if c then front.Newlines else front.Nothing) ns
    same true = refl
    same false = refl
text_written_as front.Marks t ns tail h k =
    changed_written without_marks refl marks_append t ns tail h k ∙ ap (λ m. escape false (without_marks t) ++ written_before m tail) (same (is_nothing (without_marks t)))
  where
    same : (c : Bool) → (if c then with_first without_marks ns else ns) ≡ with_front (if c then front.Marks else front.Nothing) ns
    same true = refl
    same false = refl

-- also if the newlines are known that are written twice
put_as_written : (t : List ℕ) (ns : Nodes) → as_written (put_text t ns) ≡ put_text t (as_written ns)
put_as_written [] ns = refl
put_as_written (b ∷ t) End = refl
put_as_written (b ∷ t) (TextThen u rest) = refl
put_as_written (b ∷ t) (ElementThen name attrs inner rest) = refl

text_written_if : (b : Front) (t : List ℕ) (ns : Nodes) (tail : List ℕ) → IsUtf8 t → IsUtf8 (behind_front b t)
    → written_if b (put_text t ns) tail ≡ escape false (behind_front b t) ++ written_if (if is_nothing (behind_front b t) then b else front.Nothing) ns tail
text_written_if b t ns tail h k = ap (λ m. written_before (with_front b m) tail) (put_as_written t ns) ∙ text_written_as b t (as_written ns) tail h k

-- ---- what stands open, and how

-- no void element, and the last isn't one whose text is written unescaped
record IsOpen (o : Opener) (os : List Opener) : Type 0 where
  shown : are_hidden (o ∷ os) ≡ false
  escaped : o.is_raw ≡ false

abbrev working : List Opener → Standing
working os = Working true false os

-- a text
text_step : (r : Rules) (es : List OpenElement) (b : Front) (o : Opener) (os : List Opener) (text : List ℕ) (calls : List Call) → o.is_raw ≡ false
    → texts (at r es b (working (o ∷ os))) (TextOf text ∷ calls)
    ≡ escape false (behind_front b (text_left (place_among r es).spot text)) ++ texts (at r es (if is_nothing (behind_front b (text_left (place_among r es).spot text)) then b else front.Nothing) (working (o ∷ os))) calls
text_step r es b o os text calls escaped = by (behind_front b (text_left (place_among r es).spot text))
  where
    by : (v : List ℕ) → option_map_or (text_written (working (o ∷ os))) (call_of v) [] ++ texts (at r es (if is_nothing v then b else front.Nothing) (option_map_or (standing_after (working (o ∷ os))) (call_of v) (working (o ∷ os)))) calls
        ≡ escape false v ++ texts (at r es (if is_nothing v then b else front.Nothing) (working (o ∷ os))) calls
    by [] = ap (λ l. l ++ texts (at r es b (working (o ∷ os))) calls) (sym escape_none)
    by (x ∷ v) = ap (λ c. (if c then x ∷ v else escape false (x ∷ v)) ++ texts (at r es front.Nothing (working (o ∷ os))) calls) escaped

-- nothing is let through nowhere, and nothing is written there
fits_nowhere : (k : Kind) (x : Place) (s : Spot) → s ≡ spot.Nowhere → fits_at s k x ≡ false
fits_nowhere k x s e = ap (λ t. fits_at t k x) e

lets_nowhere : (r : Rules) (x : Place) (name : QualName) → x.spot ≡ spot.Nowhere → is_let r x name ≡ false
lets_nowhere r x name e = by (is_html name) (r.names name.local) (fits (kind_of name.local) x) (by_room _ (fits_nowhere (kind_of name.local) x x.spot e))
  where
    by_room : (b : Bool) {c : Bool} → c ≡ false → (b && c) ≡ false
    by_room true h = h
    by_room false h = refl

    by : (a b c : Bool) → c ≡ false → (a && (b && c)) ≡ false
    by true true c h = h
    by true false c h = refl
    by false b c h = refl

abbrev place_without : Rules → Place → QualName → Place
place_without r x name = if is_dropped r name then nowhere x else x

still_nowhere : (r : Rules) (x : Place) (name : QualName) → x.spot ≡ spot.Nowhere → (place_without r x name).spot ≡ spot.Nowhere
still_nowhere r x name e = by (is_dropped r name)
  where
    by : (b : Bool) → (if b then nowhere x else x).spot ≡ spot.Nowhere
    by true = refl
    by false = e

-- an element that isn't let through: neither of its tags is written
abbrev unwritten : Rules → List OpenElement → QualName → List OpenElement
unwritten r es name = record { is_written = false; place = place_without r (place_among r es) name } ∷ es

not_let_step : (r : Rules) (es : List OpenElement) (b : Front) (m : Standing) (name : QualName) (attrs : List AttributeText) (calls : List Call) → is_let r (place_among r es) name ≡ false
    → texts (at r es b m) (StartOf name attrs ∷ calls) ≡ texts (at r (unwritten r es name) b m) calls
not_let_step r es b m name attrs calls e = ap (λ c. option_map_or (text_written m) (if c then Some start else None) [] ++ texts (begun c) calls) e
  where
    start : Call
    start = StartOf name (attributes_left r name.local attrs)

    begun : Bool → State
    begun c = record {
      rules = r;
      elements = (if c then record { is_written = true; place = inside (kind_of name.local) (place_among r es) } else record { is_written = false; place = place_without r (place_among r es) name }) ∷ es;
      front = if c then front_inside (kind_of name.local) else b;
      standing = option_map_or (standing_after m) (if c then Some start else None) m;
    }

nothing_written : (r : Rules) (es : List OpenElement) (b : Front) (m : Standing) (s : Source) (calls : List Call) → (place_among r es).spot ≡ spot.Nowhere
    → texts (at r es b m) (calls_before s calls) ≡ texts (at r es b m) calls
nothing_written r es b m Done calls e = refl
nothing_written r es b m (CommentThen text rest) calls e = nothing_written r es b m rest calls e
nothing_written r es b m (DoctypeThen name rest) calls e = nothing_written r es b m rest calls e
nothing_written r es b m (InstructionThen target content rest) calls e = nothing_written r es b m rest calls e
nothing_written r es b m (source.TextThen text rest) calls e = by b ∙ nothing_written r es b m rest calls e
  where
    none : text_left (place_among r es).spot text ≡ []
    none = ap (λ s. text_left s text) e ∙ by_test (is_utf8 text)
      where
        by_test : (u : Bool) → (if u && false then readable text else []) ≡ []
        by_test true = refl
        by_test false = refl

    by : (c : Front) → texts (at r es c m) (TextOf text ∷ calls_before rest calls) ≡ texts (at r es c m) (calls_before rest calls)
    by front.Nothing = ap (λ t. option_map_or (text_written m) (call_of t) [] ++ texts (at r es (if is_nothing t then front.Nothing else front.Nothing) (option_map_or (standing_after m) (call_of t) m)) (calls_before rest calls)) none
    by front.Newlines = ap (λ t. option_map_or (text_written m) (call_of (doubled t)) [] ++ texts (at r es (if is_nothing (doubled t) then front.Newlines else front.Nothing) (option_map_or (standing_after m) (call_of (doubled t)) m)) (calls_before rest calls)) none
    by front.Marks = ap (λ t. option_map_or (text_written m) (call_of (without_marks t)) [] ++ texts (at r es (if is_nothing (without_marks t) then front.Marks else front.Nothing) (option_map_or (standing_after m) (call_of (without_marks t)) m)) (calls_before rest calls)) none
nothing_written r es b m (source.ElementThen name attrs inner rest) calls e =
    not_let_step r es b m name attrs (calls_before inner (EndOf name ∷ calls_before rest calls)) (lets_nowhere r (place_among r es) name e)
    ∙ nothing_written r (unwritten r es name) b m inner (EndOf name ∷ calls_before rest calls) (still_nowhere r (place_among r es) name e)
    ∙ nothing_written r es b m rest calls e

-- ---- elements

-- what a start leaves open, and how such an element is written
abbrev written_element : Rules → List OpenElement → QualName → List OpenElement
written_element r es name = record { is_written = true; place = inside (kind_of name.local) (place_among r es) } ∷ es

let_step : (r : Rules) (es : List OpenElement) (b : Front) (o : Opener) (os : List Opener) (name : QualName) (attrs : List AttributeText) (calls : List Call)
    → is_let r (place_among r es) name ≡ true → are_hidden (o ∷ os) ≡ false
    → texts (at r es b (working (o ∷ os))) (StartOf name attrs ∷ calls)
    ≡ start_tag name (attributes_left r name.local attrs) ++ texts (at r (written_element r es name) (front_inside (kind_of name.local)) (working (start_of true name ∷ o ∷ os))) calls
let_step r es b o os name attrs calls e shown =
    ap (λ c. option_map_or (text_written m) (if c then Some start else None) [] ++ texts (begun c) calls) e
    ∙ ap (λ h. (if h then [] else start_tag name left) ++ texts (at r (written_element r es name) (front_inside (kind_of name.local)) (working (start_of true name ∷ o ∷ os))) calls) shown
  where
    m : Standing
    m = working (o ∷ os)

    left : List AttributeText
    left = attributes_left r name.local attrs

    start : Call
    start = StartOf name left

    begun : Bool → State
    begun c = record {
      rules = r;
      elements = (if c then record { is_written = true; place = inside (kind_of name.local) (place_among r es) } else record { is_written = false; place = place_without r (place_among r es) name }) ∷ es;
      front = if c then front_inside (kind_of name.local) else b;
      standing = option_map_or (standing_after m) (if c then Some start else None) m;
    }

-- the end of an element whose tags are written, which is void or not
end_step : (r : Rules) (es : List OpenElement) (b : Front) (p : Opener) (o : Opener) (os : List Opener) (x : Place) (name : QualName) (calls : List Call) (v : Bool)
    → are_hidden (p ∷ o ∷ os) ≡ v
    → texts (at r (record { is_written = true; place = x } ∷ es) b (working (p ∷ o ∷ os))) (EndOf name ∷ calls)
    ≡ (if v then [] else end_tag name) ++ texts (at r es front.Nothing (working (o ∷ os))) calls
end_step r es b p o os x name calls v e = ap (λ h. (if h then [] else end_tag name) ++ texts (at r es front.Nothing (working (o ∷ os))) calls) e

-- what such an element holds is written as its name says
doubled_written : (ns : Nodes) (tail : List ℕ) → written_before (with_first doubled ns) tail ≡ written_before (with_doubled ns) tail
doubled_written End tail = refl
doubled_written (TextThen [] rest) tail = ap (λ l. l ++ written_before rest tail) (sym escape_none)
doubled_written (TextThen (b ∷ t) rest) tail = by (b == 10)
  where
    by : (c : Bool) → written_before (text_then (if c then 10 ∷ b ∷ t else b ∷ t) rest) tail ≡ written_before (TextThen (if c then 10 ∷ b ∷ t else b ∷ t) rest) tail
    by true = refl
    by false = refl
doubled_written (ElementThen name attrs inner rest) tail = refl

held_written : (name : List ℕ) (ns : Nodes) (tail : List ℕ) → written_before (with_front (front_inside (kind_of name)) ns) tail ≡ written_before (held_as_written name ns) tail
held_written name ns tail = by (kind_of name) ∙ ap (λ b. written_before (if b then with_doubled ns else ns) tail) (sym (pre_named name))
  where
    by : (k : Kind) → written_before (with_front (front_inside k) ns) tail ≡ written_before (if is_pre_kind k then with_doubled ns else ns) tail
    by kind.Preformatted = doubled_written ns tail
    by _ = refl

-- a void element holds nothing
void_nowhere : (k : Kind) (x : Place) → is_void_kind k ≡ true → (inside k x).spot ≡ spot.Nowhere
void_nowhere kind.Ruled x e = refl
void_nowhere kind.Break x e = refl
void_nowhere kind.Column x e = refl
void_nowhere _ x e = absurd (cc)

unknown_fits : (s : Spot) (x : Place) → fits_at s kind.Unknown x ≡ false
unknown_fits spot.InFlow x = refl
unknown_fits spot.InTable x = refl
unknown_fits spot.InColumns x = refl
unknown_fits spot.InSection x = refl
unknown_fits spot.InRow x = refl
unknown_fits spot.Nowhere x = refl

-- an element that is let through is one of HTML, and is written as its kind is
record IsLet (name : QualName) : Type 0 where
  html : is_html name ≡ true
  written : IsWritten name.local (kind_of name.local)

is_let_so : (r : Rules) (x : Place) (name : QualName) → is_let r x name ≡ true → IsLet name
is_let_so r x name e =
    let h = both_of (is_html name) _ e in
    let n = both_of (r.names name.local) (fits (kind_of name.local) x) h.1 in
    let f = both_of _ (fits_at x.spot (kind_of name.local) x) n.1 in
    by h.0 f.1 (written_so name.local)
  where
    by : is_html name ≡ true → fits_at x.spot (kind_of name.local) x ≡ true → (kind_of name.local ≡ kind.Unknown) ⊎ IsWritten name.local (kind_of name.local) → IsLet name
    by h f (inl u) = absurd (false≢true (sym (ap (λ k. fits_at x.spot k x) u ∙ unknown_fits x.spot x) ∙ f))
    by h f (inr w) = record { html = h; written = w }

or_false : (a b : Bool) → a ≡ false → b ≡ false → (a || b) ≡ false
or_false a b h g = ap (λ x. x || b) h ∙ g

and_true : (a b : Bool) → a ≡ true → (a && b) ≡ b
and_true a b h = ap (λ x. x && b) h

opener_shown : (name : QualName) (o : Opener) (os : List Opener) → IsLet name → are_hidden (o ∷ os) ≡ false → are_hidden (start_of true name ∷ o ∷ os) ≡ is_void_kind (kind_of name.local)
opener_shown name o os l shown = by (is_void_kind (kind_of name.local)) (and_true (is_html name) _ l.html ∙ l.written.void)
  where
    by : (v : Bool) → (is_html name && is_one_of void_names name.local) ≡ v → ((is_html name && is_one_of void_names name.local) || are_hidden (o ∷ os)) ≡ v
    by v e = ap (λ x. x || are_hidden (o ∷ os)) e ∙ ap (λ x. v || x) shown ∙ none v
      where
        none : (b : Bool) → (b || false) ≡ b
        none true = refl
        none false = refl

opener_escaped : (name : QualName) → IsLet name → (start_of true name).is_raw ≡ false
opener_escaped name l = and_true (is_html name) _ l.html ∙ or_false _ _ l.written.raw l.written.noscript

-- a start tag and an end tag, before what follows
start_before : (name : QualName) (attrs : List AttributeText) (more : List ℕ) → start_tag name attrs ++ more ≡ codes "<" ++ (tag_written name.local attrs ++ (codes ">" ++ more))
start_before name attrs more = ap (λ l. 60 ∷ l) (append_assoc (name.local ++ flat_map attribute_written attrs) (codes ">") more)

end_before : (name : QualName) (more : List ℕ) → end_tag name ++ more ≡ codes "</" ++ (name.local ++ (codes ">" ++ more))
end_before name more = ap (λ l. 60 ∷ 47 ∷ l) (append_assoc name.local (codes ">") more)

-- an element is written before what follows
element_before : (name : QualName) (attrs : List AttributeText) (inner rest : Nodes) (tail : List ℕ) (v : Bool) → is_one_of void_names name.local ≡ v
    → start_tag name attrs ++ (if v then written_before rest tail else written_before inner (end_tag name ++ written_before rest tail)) ≡ written_before (ElementThen name.local attrs inner rest) tail
element_before name attrs inner rest tail true e =
    start_before name attrs (written_before rest tail)
    ∙ ap (λ b. codes "<" ++ (tag_written name.local attrs ++ (codes ">" ++ (if not b then written_before inner (codes "</" ++ (name.local ++ (codes ">" ++ written_before rest tail))) else written_before rest tail)))) (sym e)
element_before name attrs inner rest tail false e =
    start_before name attrs (written_before inner (end_tag name ++ written_before rest tail))
    ∙ ap (λ l. codes "<" ++ (tag_written name.local attrs ++ (codes ">" ++ written_before inner l))) (end_before name (written_before rest tail))
    ∙ ap (λ b. codes "<" ++ (tag_written name.local attrs ++ (codes ">" ++ (if not b then written_before inner (codes "</" ++ (name.local ++ (codes ">" ++ written_before rest tail))) else written_before rest tail)))) (sym e)

-- ---- the whole tree

-- the calls of a tree, before others, are written as what is left of it
abbrev Writes : Rules → Source → Type 0
Writes r s =
    (es : List OpenElement) (b : Front) (o : Opener) (os : List Opener) (calls : List Call) (more : Nodes) (tail : List ℕ) → IsOpen o os
    → ((c : Front) → texts (at r es c (working (o ∷ os))) calls ≡ written_if c more tail)
    → texts (at r es b (working (o ∷ os))) (calls_before s calls) ≡ written_if b (left_before r (place_among r es) s more) tail

written_element_if : (b : Front) (name : List ℕ) (attrs : List AttributeText) (inner rest : Nodes) (tail : List ℕ) → written_before (as_written (ElementThen name attrs inner rest)) tail ≡ written_if b (ElementThen name attrs inner rest) tail
written_element_if front.Nothing name attrs inner rest tail = refl
written_element_if front.Newlines name attrs inner rest tail = refl
written_element_if front.Marks name attrs inner rest tail = refl

written_none_if : (b : Front) (tail : List ℕ) → tail ≡ written_if b End tail
written_none_if front.Nothing tail = refl
written_none_if front.Newlines tail = refl
written_none_if front.Marks tail = refl

element_written : (r : Rules) (name : QualName) (attrs : List AttributeText) (inner rest : Source) → Writes r inner → Writes r rest → Writes r (source.ElementThen name attrs inner rest)
element_written r name attrs inner rest inside_is rest_is es b o os calls more tail open_ behind = by (is_let r x name) refl
  where
    x : Place
    x = place_among r es

    k : Kind
    k = kind_of name.local

    left : List AttributeText
    left = attributes_left r name.local attrs

    later : Nodes
    later = left_before r x rest more

    held_nodes : Nodes
    held_nodes = left_before r (inside k x) inner End

    all : List Call
    all = calls_before inner (EndOf name ∷ calls_before rest calls)

    held : Nodes
    held = held_as_written name.local (as_written held_nodes)

    -- what follows the end
    follows : (c : Front) → texts (at r es c (working (o ∷ os))) (calls_before rest calls) ≡ written_if c later tail
    follows c = rest_is es c o os calls more tail open_ behind

    of_void : (l : IsLet name) → is_void_kind k ≡ true → texts (at r (written_element r es name) (front_inside k) (working (start_of true name ∷ o ∷ os))) all ≡ written_before (as_written later) tail
    of_void l v =
        nothing_written r (written_element r es name) (front_inside k) (working (start_of true name ∷ o ∷ os)) inner (EndOf name ∷ calls_before rest calls) (void_nowhere k x v)
        ∙ end_step r es (front_inside k) (start_of true name) o os (inside k x) name (calls_before rest calls) true (opener_shown name o os l open_.shown ∙ v)
        ∙ follows front.Nothing

    of_other : (l : IsLet name) → is_void_kind k ≡ false → texts (at r (written_element r es name) (front_inside k) (working (start_of true name ∷ o ∷ os))) all ≡ written_before held (end_tag name ++ written_before (as_written later) tail)
    of_other l v =
        let shown = opener_shown name o os l open_.shown ∙ v in
        inside_is (written_element r es name) (front_inside k) (start_of true name) (o ∷ os) (EndOf name ∷ calls_before rest calls) End (end_tag name ++ written_before (as_written later) tail)
        (record { shown = shown; escaped = opener_escaped name l })
        (λ c. end_step r es c (start_of true name) o os (inside k x) name (calls_before rest calls) false shown ∙ ap (λ t. end_tag name ++ t) (follows front.Nothing) ∙ written_none_if c _)
        ∙ held_written name.local (as_written held_nodes) (end_tag name ++ written_before (as_written later) tail)

    by_void : (v : Bool) → is_void_kind k ≡ v → IsLet name
        → start_tag name left ++ texts (at r (written_element r es name) (front_inside k) (working (start_of true name ∷ o ∷ os))) all ≡ written_before (as_written (ElementThen name.local left held_nodes later)) tail
    by_void true v l = ap (λ t. start_tag name left ++ t) (of_void l v) ∙ element_before name left held (as_written later) tail true (l.written.void ∙ v)
    by_void false v l = ap (λ t. start_tag name left ++ t) (of_other l v) ∙ element_before name left held (as_written later) tail false (l.written.void ∙ v)

    by : (c : Bool) → is_let r x name ≡ c
        → texts (at r es b (working (o ∷ os))) (StartOf name attrs ∷ all) ≡ written_if b (if c then ElementThen name.local left held_nodes later else left_before r (place_without r x name) inner later) tail
    by true e =
        let_step r es b o os name attrs all e open_.shown
        ∙ by_void (is_void_kind k) refl (is_let_so r x name e)
        ∙ written_element_if b name.local left held_nodes later tail
    by false e =
        not_let_step r es b (working (o ∷ os)) name attrs all e
        ∙ inside_is (unwritten r es name) b o os (EndOf name ∷ calls_before rest calls) later tail open_ (λ c. follows c)

left_written : (r : Rules) (s : Source) → Writes r s
left_written r Done es b o os calls more tail open_ behind = behind b
left_written r (source.TextThen text rest) es b o os calls more tail open_ behind =
    let t = text_left (place_among r es).spot text in
    let v = behind_front b t in
    text_step r es b o os text (calls_before rest calls) open_.escaped
    ∙ ap (λ l. escape false v ++ l) (left_written r rest es (if is_nothing v then b else front.Nothing) o os calls more tail open_ behind)
    ∙ sym (text_written_if b t (left_before r (place_among r es) rest more) tail (left_utf8 (place_among r es).spot text) (front_utf8 b (place_among r es).spot text))
left_written r (source.ElementThen name attrs inner rest) es b o os calls more tail open_ behind =
    element_written r name attrs inner rest (left_written r inner) (left_written r rest) es b o os calls more tail open_ behind
left_written r (CommentThen text rest) es b o os calls more tail open_ behind = left_written r rest es b o os calls more tail open_ behind
left_written r (DoctypeThen name rest) es b o os calls more tail open_ behind = left_written r rest es b o os calls more tail open_ behind
left_written r (InstructionThen target content rest) es b o os calls more tail open_ behind = left_written r rest es b o os calls more tail open_ behind

-- the U+FEFF at the start is also removed from what is written
unmarked_written : (ns : Nodes) → with_first without_marks (as_written ns) ≡ as_written (with_first without_marks ns)
unmarked_written End = refl
unmarked_written (TextThen t rest) = by (without_marks t)
  where
    by : (v : List ℕ) → text_then v (as_written rest) ≡ as_written (text_then v rest)
    by [] = refl
    by (b ∷ v) = refl
unmarked_written (ElementThen name attrs inner rest) = refl

pub tree_written : (r : Rules) (s : Source) → texts (first_state r) (calls_before s []) ≡ written_fragment (cleaned r s)
tree_written r s =
    left_written r s [] front.Marks plain [] [] End [] (record { shown = refl; escaped = refl }) (λ c. written_none_if c [])
    ∙ ap (λ ns. written_before ns []) (unmarked_written (left_before r (first_place r) s End))
