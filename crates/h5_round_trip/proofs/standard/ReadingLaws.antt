-- A plain document is read back by the standard's tokenization.
use Rattle.std.proofs.Common.{◌≡◌, ℕ, Bool, true, false, List, [], ◌∷◌, ◌++◌, cond, eqb, append-nil, refl, sym, ap, ◌∙◌, subst, append_assoc, codes}
use Rattle.h5_names.specs.AttributeText.{AttributeText, is_same_text}
use Rattle.h5_token.specs.TokenText.{TokenText, DoctypeIs, TagIs, CommentIs, Characters, NullCharacter, EndOfFile, ParseErrorIs}
use Rattle.h5_token.specs.Reply.{Reply, Continues, TurnsRaw}
use Rattle.h5_token.specs.declared.states.RawKind.TheVariants.{Rcdata}
use Rattle.h5_serialize.specs.Escape.{escape}
use Rattle.h5_tokenizer_input.specs.Answers.{goes_on}
use Rattle.h5_tokenizer_input.specs.Blindness.{IsBlindToCuts}
use Rattle.h5_tokenizer_input.specs.Options.{default_options}
use Rattle.h5_tokenizer_input.specs.Told.{after_all, handed, told}
use Rattle.h5_tokenizer_input.proofs.AnswerLaws.{unrefused}
use Rattle.h5_tokenizer_spec.specs.declared.kinds.TextKind.TheVariants as text
use Rattle.h5_tokenizer_spec.specs.End.{last_tokens}
use Rattle.h5_tokenizer_spec.specs.AtEnd.{at_end}
use Rattle.h5_tokenizer_spec.specs.Reading.{Passes, ReaderPlace, Read, after_token, behind, chosen_state, nothing_read, quiet_step, read_on, text_step, token_step}
use Rattle.h5_tokenizer_spec.specs.ReferenceTable.{references}
use Rattle.h5_tokenizer_spec.specs.States.{State, Text as TextState}
use Rattle.h5_tokenizer_spec.specs.Whole.{ReadsToEnd, more_reading, no_reading}
use Rattle.h5_tokenizer_spec.specs.WithoutErrors.{HasNoInputErrors, ReadsWithoutErrors}
use Rattle.h5_tokenizer_spec.specs.SeenAhead.{seen_ahead, told_of_row}
use Rattle.h5_tokenizer_spec.specs.Spots.{position}
use Rattle.h5_tokenizer_spec.specs.Telling.{at_first}
use Rattle.h5_tokenizer_spec.specs.WholeTelling.{TellsToEnd, more_telling, no_telling}
use Rattle.h5_tokenizer_spec.specs.declared.position.Spot.{Spot}
use Rattle.h5_tokenizer_spec.specs.declared.position.LocatedError.{LocatedError}
use Rattle.h5_tokenizer_spec.proofs.ToldCutLaws.{told_agree}
use Rattle.h5_standard_tokenizer.specs.Options.{first_place}
use Rattle.h5_builder_laws.specs.Plain.{ArePlain, ElementThen, End, Nodes, PlainDocument, TextThen, as_written, document_tokens, end_tag, fragment_tokens, has_end_tag, is_start_of_title, plain_doctype, plain_reply, root_of, start_tag, tokens_before}
use Rattle.h5_round_trip.specs.Answers.{Answers}
use Rattle.h5_round_trip.specs.Readable.{AreReadable, CanBeRead, IsReadable, IsReadableDocument}
use Rattle.h5_round_trip.specs.Written.{tag_written, written_before, written_fragment, written_of}
use Rattle.h5_round_trip.proofs.DoubledLaws.{read_written, shape_written}
use Rattle.h5_round_trip.proofs.ShapeLaws.{Element, None, Shape, Text, Title, Void, document_shape, is_title}
use Rattle.h5_round_trip.proofs.TagLaws.{IsTagName}
use Rattle.h5_round_trip.proofs.standard.QuietLaws.{ComesQuietly, begins_quietly, outcome_of, passes_of, quietly_on, text_quietly, token_quietly}
use Rattle.h5_round_trip.proofs.standard.ReferenceLaws.{InData, InTitle, Where, state_of}
use Rattle.h5_round_trip.proofs.standard.RunLaws.{IsIn, Moves}
use Rattle.h5_round_trip.specs.Fragment.{AnswersCuts}
use Rattle.h5_token.specs.Joins.{join}
use Rattle.h5_tokenizer_input.proofs.JoinLaws.{joins_append}
use Rattle.h5_round_trip.proofs.standard.TagLaws.{HandsToken, doctype_handed, end_handed, start_handed, title_end_handed}
use Rattle.h5_round_trip.proofs.standard.TextLaws.{text_ends, text_reads}

-- in data, or in the text of a title
abbrev pub In : (title : Bool) → ReaderPlace → Type 0
In false p = IsIn p (TextState text.Data)
In true p = IsIn p (TextState text.Rcdata) × (p.last ≡ codes "title")

abbrev where_in : (title : Bool) → Where
where_in false = InData
where_in true = InTitle

plain_goes : (t : TokenText) → goes_on (plain_reply t) ≡ true
plain_goes (TagIs tag) = by (is_start_of_title tag)
  where
    by : (b : Bool) → goes_on (cond b (TurnsRaw Rcdata) Continues) ≡ true
    by true = refl
    by false = refl
plain_goes (DoctypeIs d) = refl
plain_goes (CommentIs d) = refl
plain_goes (Characters d) = refl
plain_goes NullCharacter = refl
plain_goes EndOfFile = refl
plain_goes (ParseErrorIs d) = refl

-- the place after a start tag, and after others
abbrev pub behind_token : ReaderPlace → ℕ → TokenText → Reply → ReaderPlace
behind_token p byte t reply = after_token t reply (behind byte (TextState text.Data) p)

behind_start : (q : ReaderPlace) (byte : ℕ) (name : List ℕ) (attrs : List AttributeText) (reply : Reply) → is_same_text name (codes "title") ≡ false → eqb byte 13 ≡ false → reply ≡ plain_reply (start_tag name attrs) → In false (behind_token q byte (start_tag name attrs) reply)
behind_start q byte name attrs reply other c e =
    record { at = ap chosen_state e ∙ ap (λ b. chosen_state (cond b (TurnsRaw Rcdata) Continues)) other; after_return = c }

behind_title : (q : ReaderPlace) (byte : ℕ) (attrs : List AttributeText) (reply : Reply) → eqb byte 13 ≡ false → reply ≡ plain_reply (start_tag (codes "title") attrs) → In true (behind_token q byte (start_tag (codes "title") attrs) reply)
behind_title q byte attrs reply c e = (record { at = ap chosen_state e; after_return = c }, refl)

behind_end : (q : ReaderPlace) (byte : ℕ) (name : List ℕ) (reply : Reply) → eqb byte 13 ≡ false → In false (behind_token q byte (end_tag name) reply)
behind_end q byte name reply c = record { at = refl; after_return = c }

behind_doctype : (q : ReaderPlace) (byte : ℕ) (reply : Reply) → eqb byte 13 ≡ false → In false (behind_token q byte plain_doctype reply)
behind_doctype q byte reply c = record { at = refl; after_return = c }

-- something follows
pub record IsSome (xs : List ℕ) : Type 0 where
  pub first : ℕ
  pub more : List ℕ
  pub is : xs ≡ first ∷ more

pub some_behind : (xs ys : List ℕ) → IsSome ys → IsSome (xs ++ ys)
some_behind [] ys h = h
some_behind (x ∷ xs) ys h = record { first = x; more = xs ++ ys; is = refl }

some_before : (ns : Nodes) (rest : List ℕ) → IsSome rest → IsSome (written_before ns rest)
some_before End rest h = h
some_before (TextThen text others) rest h = some_behind (escape false text) (written_before others rest) (some_before others rest h)
some_before (ElementThen name attrs inner others) rest h = record { first = 60; more = _; is = refl }

-- something follows each text
abbrev Room : Nodes → List ℕ → Type 0
Room End rest = Unit {0}
Room (TextThen text others) rest = IsSome (written_before others rest) × Room others rest
Room (ElementThen name attrs inner others) rest = Room others rest

room : (ns : Nodes) (rest : List ℕ) → IsSome rest → Room ns rest
room End rest h = tt
room (TextThen text others) rest h = (some_before others rest h, room others rest h)
room (ElementThen name attrs inner others) rest h = room others rest h

-- nodes before a text: an element, so that something is written
abbrev pub IsNode : Nodes → Type 0
IsNode (ElementThen name attrs inner rest) = Unit {0}
IsNode _ = ⊥

node_before : (ns : Nodes) (rest : List ℕ) → IsNode ns → IsSome (written_before ns rest)
node_before End rest n = absurd (n)
node_before (TextThen t r) rest n = absurd (n)
node_before (ElementThen name attrs inner r) rest n = record { first = 60; more = _; is = refl }

no_second : {b : Bool} {v : List ℕ} {rest : Nodes} → Shape b (TextThen v rest) → b ≡ true → ⊥
no_second (Text h) e = absurd (let z : false ≡ true = e in cc)

-- a list of nodes that ends with a text, the nodes before it, and the text
pub data Splits : Nodes → Nodes → List ℕ → Type 0 where
  LastText : {t : List ℕ} → Splits (TextThen t End) End t
  PastText : {u t : List ℕ} {ns front : Nodes} → Splits ns front t → IsNode front → Splits (TextThen u ns) (TextThen u front) t
  PastElement : {name : List ℕ} {attrs : List AttributeText} {inner ns front : Nodes} {t : List ℕ} → Splits ns front t → Splits (ElementThen name attrs inner ns) (ElementThen name attrs inner front) t

split_tokens : {ns front : Nodes} {t : List ℕ} (more : List TokenText) → Splits ns front t → tokens_before ns more ≡ tokens_before front (Characters t ∷ more)
split_tokens more LastText = refl
split_tokens more (PastText {u} s n) = ap (λ l. Characters u ∷ l) (split_tokens more s)
split_tokens more (PastElement {name} {attrs} {inner} s) = ap (λ l. start_tag name attrs ∷ cond (has_end_tag name) (tokens_before inner (end_tag name ∷ l)) l) (split_tokens more s)

split_written : {ns front : Nodes} {t : List ℕ} → Splits ns front t → written_before ns [] ≡ written_before front (escape false t)
split_written {t = t} LastText = append-nil (escape false t)
split_written (PastText {u} s n) = ap (λ l. escape false u ++ l) (split_written s)
split_written (PastElement {name} {attrs} {inner} s) =
    ap (λ l. codes "<" ++ (tag_written name attrs ++ (codes ">" ++ cond (has_end_tag name) (written_before inner (codes "</" ++ (name ++ (codes ">" ++ l)))) l))) (split_written s)

split_read : {ns front : Nodes} {t : List ℕ} → Splits ns front t → CanBeRead ns → CanBeRead front × IsReadable t
split_read LastText c = (tt, c.0)
split_read (PastText s n) c = let r = split_read s c.1 in ((c.0, r.0), r.1)
split_read (PastElement s) c = let r = split_read s c.1.1 in ((c.0, (c.1.0, r.0)), r.1)

split_room : {ns front : Nodes} {t : List ℕ} → Splits ns front t → Room front (escape false t)
split_room LastText = tt
split_room {t = t} (PastText {front = front} s n) = (node_before front (escape false t) n, split_room s)
split_room (PastElement s) = split_room s

split_shape : {b : Bool} {ns front : Nodes} {t : List ℕ} → Splits ns front t → Shape b ns → Shape b front
split_shape LastText h = None
split_shape (PastText s n) (Text h) = Text (split_shape s h)
split_shape (PastElement s) (Void v p h) = Void v p (split_shape s h)
split_shape (PastElement s) (Element o p i h) = Element o p i (split_shape s h)
split_shape (PastElement s) (Title p h) = Title p (split_shape s h)

split_filled : {b : Bool} {ns front : Nodes} {t : List ℕ} → Splits ns front t → Shape b ns → IsSome t
split_filled LastText (Text {first} {more} h) = record { first = first; more = more; is = refl }
split_filled (PastText s n) (Text h) = split_filled s h
split_filled (PastElement s) (Void v p h) = split_filled s h
split_filled (PastElement s) (Element o p i h) = split_filled s h
split_filled (PastElement s) (Title p h) = split_filled s h

-- or there is room for none
pub data Ending (ns : Nodes) : Type 0 where
  InTag : Room ns [] → Ending ns
  InText : {front : Nodes} {t : List ℕ} → Splits ns front t → Ending ns

past_text : (u : List ℕ) (name : List ℕ) (attrs : List AttributeText) (inner rest : Nodes) → Ending (ElementThen name attrs inner rest) → Ending (TextThen u (ElementThen name attrs inner rest))
past_text u name attrs inner rest (InTag r) = InTag (record { first = 60; more = _; is = refl }, r)
past_text u name attrs inner rest (InText (PastElement s)) = InText (PastText (PastElement s) tt)

past_element : (name : List ℕ) (attrs : List AttributeText) (inner rest : Nodes) → Ending rest → Ending (ElementThen name attrs inner rest)
past_element name attrs inner rest (InTag r) = InTag r
past_element name attrs inner rest (InText s) = InText (PastElement s)

ending : {b : Bool} (ns : Nodes) → Shape b ns → Ending ns
ending End None = InTag tt
ending (TextThen u End) (Text h) = InText LastText
ending (TextThen u (TextThen v rest)) (Text h) = absurd (no_second h refl)
ending (TextThen u (ElementThen name attrs inner rest)) (Text h) = past_text u name attrs inner rest (ending (ElementThen name attrs inner rest) h)
ending (ElementThen name attrs inner rest) (Void v p h) = past_element name attrs inner rest (ending rest h)
ending (ElementThen name attrs inner rest) (Element o p i h) = past_element name attrs inner rest (ending rest h)
ending (ElementThen name attrs inner rest) (Title p h) = past_element name attrs inner rest (ending rest h)

module _ {M : Type 0} (reply_to : M → TokenText → Reply) (after : M → TokenText → ℕ → M) (foreign : M → Bool) (ended : M → M) where
  -- from a place on some of all tokens were read; more of them, and this text, are left. No error was reported for what
  -- was read, if no character of the input is one.
  pub record Reached (p : ReaderPlace) (m : M) (xs : List ℕ) (all : List TokenText) (title : Bool) (more : List TokenText) (rest : List ℕ) : Type 0 where
    pub place : ReaderPlace
    pub meaning : M
    pub handed : List TokenText
    pub reply : Reply
    pub goes : goes_on reply ≡ true
    pub read : Read references reply_to after foreign p m xs handed reply place meaning rest
    pub is_in : In title place
    pub answers : Answers reply_to after meaning more
    pub whole : handed ++ more ≡ all
    pub quietly : (s : Spot) → HasNoInputErrors xs → ComesQuietly reply_to after foreign (at_first p s m xs) [] place.began place meaning rest

  module _ (p : ReaderPlace) (m : M) (xs : List ℕ) (all : List TokenText) where
    pub token_taken : (title next : Bool) (t : TokenText) (more : List TokenText) (written rest : List ℕ)
        → ((q : ReaderPlace) → In title q → HandsToken q written t rest)
        → ((q : ReaderPlace) (byte : ℕ) (reply : Reply) → eqb byte 13 ≡ false → reply ≡ plain_reply t → In next (behind_token q byte t reply))
        → Reached p m xs all title (t ∷ more) written → Reached p m xs all next more rest
    token_taken title next t more written rest here leads r =
        let h = here r.place r.is_in in
        record {
          place = behind_token h.place h.byte t (reply_to r.meaning t);
          meaning = after r.meaning t h.place.began;
          handed = (r.handed ++ []) ++ t ∷ [];
          reply = reply_to r.meaning t;
          goes = ap goes_on r.answers.0 ∙ plain_goes t;
          read = read_on (read_on r.read r.goes (quiet_step (passes_of h.passes))) refl (token_step t (TextState text.Data) h.kept (outcome_of h.row));
          is_in = leads h.place h.byte (reply_to r.meaning t) h.no_return r.answers.0;
          answers = r.answers.1 h.place.began;
          whole = ap (λ l. (l ++ t ∷ []) ++ more) (append-nil r.handed) ∙ append_assoc r.handed (t ∷ []) more ∙ r.whole;
          quietly = λ s none.
              token_quietly reply_to after foreign (at_first p s m xs) r.place.began h.byte h.place r.meaning rest t (TextState text.Data) h.kept h.row (ap goes_on r.answers.0 ∙ plain_goes t)
              (quietly_on reply_to after foreign (at_first p s m xs) [] r.place.began r.meaning h.passes (r.quietly s none));
        }

    in_text : (title : Bool) (q : ReaderPlace) → In title q → IsIn q (state_of (where_in title))
    in_text false q h = h
    in_text true q h = h.0

    text_so : (title : Bool) (q : ReaderPlace) (x : ℕ) (words : List ℕ) (y : ℕ) (ys : List ℕ) → IsReadable (x ∷ words) → In title q → Moves q (escape false (x ∷ words) ++ y ∷ ys) (x ∷ words) (state_of (where_in title)) (y ∷ ys)
    text_so false q x words y ys readable h = text_reads q InData (x ∷ words) y ys readable h
    text_so true q x words y ys readable h = text_reads q InTitle (x ∷ words) y ys readable h.0

    in_behind : (title : Bool) (q r : ReaderPlace) → In title q → IsIn r (state_of (where_in title)) → r.last ≡ q.last → In title r
    in_behind false q r h i l = i
    in_behind true q r h i l = (i, l ∙ h.1)

    pub text_taken : (title : Bool) (x : ℕ) (words : List ℕ) (more : List TokenText) (rest : List ℕ) → IsReadable (x ∷ words) → IsSome rest
        → Reached p m xs all title (Characters (x ∷ words) ∷ more) (escape false (x ∷ words) ++ rest) → Reached p m xs all title more rest
    text_taken title x words more rest readable some r =
        let written = escape false (x ∷ words) in
        let moves : Moves r.place (written ++ rest) (x ∷ words) (state_of (where_in title)) rest =
        subst (λ zs. Moves r.place (written ++ zs) (x ∷ words) (state_of (where_in title)) zs) (sym some.is) (text_so title r.place x words some.first some.more readable r.is_in) in
        record {
          place = moves.place;
          meaning = after r.meaning (Characters (x ∷ words)) r.place.began;
          handed = r.handed ++ Characters (x ∷ words) ∷ [];
          reply = reply_to r.meaning (Characters (x ∷ words));
          goes = ap goes_on r.answers.0;
          read = read_on r.read r.goes (text_step (passes_of moves.passes));
          is_in = in_behind title r.place moves.place r.is_in moves.is_in moves.last;
          answers = r.answers.1 r.place.began;
          whole = append_assoc r.handed (Characters (x ∷ words) ∷ []) more ∙ r.whole;
          quietly = λ s none.
              text_quietly reply_to after foreign (at_first p s m xs) x r.place.began words moves.place r.meaning rest (ap goes_on r.answers.0)
              (quietly_on reply_to after foreign (at_first p s m xs) [] r.place.began r.meaning moves.passes (r.quietly s none));
        }

    pub start_taken : (name : List ℕ) (attrs : List AttributeText) (more : List TokenText) (rest : List ℕ) → IsTagName name → is_same_text name (codes "title") ≡ false → ArePlain attrs → AreReadable attrs
        → Reached p m xs all false (start_tag name attrs ∷ more) (codes "<" ++ (tag_written name attrs ++ (codes ">" ++ rest))) → Reached p m xs all false more rest
    start_taken name attrs more rest tag other plain readable r =
        token_taken false false (start_tag name attrs) more (codes "<" ++ (tag_written name attrs ++ (codes ">" ++ rest))) rest
        (λ q i. start_handed q name attrs rest tag plain readable i)
        (λ q byte reply c e. behind_start q byte name attrs reply other c e)
        r

    pub title_taken : (attrs : List AttributeText) (more : List TokenText) (rest : List ℕ) → ArePlain attrs → AreReadable attrs
        → Reached p m xs all false (start_tag (codes "title") attrs ∷ more) (codes "<" ++ (tag_written (codes "title") attrs ++ (codes ">" ++ rest))) → Reached p m xs all true more rest
    title_taken attrs more rest plain readable r =
        token_taken false true (start_tag (codes "title") attrs) more (codes "<" ++ (tag_written (codes "title") attrs ++ (codes ">" ++ rest))) rest
        (λ q i. start_handed q (codes "title") attrs rest is_title.tag plain readable i)
        (λ q byte reply c e. behind_title q byte attrs reply c e)
        r

    pub end_taken : (name : List ℕ) (more : List TokenText) (rest : List ℕ) → IsTagName name
        → Reached p m xs all false (end_tag name ∷ more) (codes "</" ++ (name ++ (codes ">" ++ rest))) → Reached p m xs all false more rest
    end_taken name more rest tag r =
        token_taken false false (end_tag name) more (codes "</" ++ (name ++ (codes ">" ++ rest))) rest
        (λ q i. end_handed q name rest tag i)
        (λ q byte reply c e. behind_end q byte name reply c)
        r

    pub title_end_taken : (more : List TokenText) (rest : List ℕ)
        → Reached p m xs all true (end_tag (codes "title") ∷ more) (codes "</title>" ++ rest) → Reached p m xs all false more rest
    title_end_taken more rest r =
        token_taken true false (end_tag (codes "title")) more (codes "</title>" ++ rest) rest
        (λ q i. title_end_handed q rest i.0 i.1)
        (λ q byte reply c e. behind_end q byte (codes "title") reply c)
        r

    pub doctype_taken : (more : List TokenText) (rest : List ℕ)
        → Reached p m xs all false (plain_doctype ∷ more) (codes "<!DOCTYPE html>" ++ rest) → Reached p m xs all false more rest
    doctype_taken more rest r =
        token_taken false false plain_doctype more (codes "<!DOCTYPE html>" ++ rest) rest
        (λ q i. doctype_handed q rest i)
        (λ q byte reply c e. behind_doctype q byte reply c)
        r

    -- where it is known whether an element has an end tag
    known : (b : Bool) (name : List ℕ) (attrs : List AttributeText) (inner others : Nodes) (more : List TokenText) (rest : List ℕ) → has_end_tag name ≡ b
        → Reached p m xs all false (tokens_before (ElementThen name attrs inner others) more) (written_before (ElementThen name attrs inner others) rest)
        → Reached p m xs all false
        (start_tag name attrs ∷ cond b (tokens_before inner (end_tag name ∷ tokens_before others more)) (tokens_before others more))
        (codes "<" ++ (tag_written name attrs ++ (codes ">" ++ cond b (written_before inner (codes "</" ++ (name ++ (codes ">" ++ written_before others rest)))) (written_before others rest))))
    known b name attrs inner others more rest e r =
        subst (λ (c : Bool). Reached p m xs all false
        (start_tag name attrs ∷ cond c (tokens_before inner (end_tag name ∷ tokens_before others more)) (tokens_before others more))
        (codes "<" ++ (tag_written name attrs ++ (codes ">" ++ cond c (written_before inner (codes "</" ++ (name ++ (codes ">" ++ written_before others rest)))) (written_before others rest))))) e r

    nodes_taken : {b : Bool} (ns : Nodes) (more : List TokenText) (rest : List ℕ) → Shape b ns → CanBeRead ns → Room ns rest
        → Reached p m xs all false (tokens_before ns more) (written_before ns rest) → Reached p m xs all false more rest
    nodes_taken End more rest None c k r = r
    nodes_taken _ more rest (Text {first} {more = words} {rest = others} s) c k r =
        nodes_taken others more rest s c.1 k.1 (text_taken false first words (tokens_before others more) (written_before others rest) c.0 k.0 r)
    nodes_taken _ more rest (Void {name} {attrs} {rest = others} v plain s) c k r =
        nodes_taken others more rest s c.1.1 k
        (start_taken name attrs (tokens_before others more) (written_before others rest) v.tag v.other plain c.0 (known false name attrs End others more rest v.ends r))
    nodes_taken _ more rest (Element {name} {attrs} {inner} {rest = others} o plain i s) c k r =
        let ending = codes "</" ++ (name ++ (codes ">" ++ written_before others rest)) in
        nodes_taken others more rest s c.1.1 k
        (end_taken name (tokens_before others more) (written_before others rest) o.tag
        (nodes_taken inner (end_tag name ∷ tokens_before others more) ending i c.1.0 (room inner ending (record { first = 60; more = _; is = refl }))
        (start_taken name attrs (tokens_before inner (end_tag name ∷ tokens_before others more)) (written_before inner ending) o.tag o.other plain c.0 (known true name attrs inner others more rest o.ends r))))
    nodes_taken _ more rest (Title {attrs} {first} {more = words} {rest = others} plain s) c k r =
        let ending = codes "</title>" ++ written_before others rest in
        nodes_taken others more rest s c.1.1 k
        (title_end_taken (tokens_before others more) (written_before others rest)
        (text_taken true first words (end_tag (codes "title") ∷ tokens_before others more) ending c.1.0.0 (record { first = 60; more = _; is = refl })
        (title_taken attrs (Characters (first ∷ words) ∷ end_tag (codes "title") ∷ tokens_before others more) (escape false (first ∷ words) ++ ending) plain c.0
        (known true (codes "title") attrs (TextThen (first ∷ words) End) others more rest is_title.ends r))))

  none_left : (place : ReaderPlace) → In false place → last_tokens references place ≡ []
  none_left place i = ap (λ s. told (at_end references s).text ++ handed (at_end references s).token) i.at

  -- the end
  pub ends : (p : ReaderPlace) (m : M) (xs : List ℕ) (all : List TokenText) → Reached p m xs all false (EndOfFile ∷ []) [] → (n : M) × ReadsToEnd references reply_to after foreign ended p m xs all n
  ends p m xs all r =
      let none = none_left r.place r.is_in in (
        ended (after (after_all after r.meaning (last_tokens references r.place) r.place.began) EndOfFile r.place.line),
        record {
          handed = r.handed;
          place = r.place;
          meaning = r.meaning;
          readings = more_reading no_reading r.read (unrefused r.reply r.goes);
          tokens = sym r.whole ∙ ap (λ o. r.handed ++ (o ++ EndOfFile ∷ [])) (sym none);
          closed = refl;
        },
      )

  -- and no error was reported, nor is there one at the end
  ends_quietly : (p : ReaderPlace) (m : M) (xs : List ℕ) (all : List TokenText) (s : Spot) → HasNoInputErrors xs → Reached p m xs all false (EndOfFile ∷ []) []
      → ReadsWithoutErrors references reply_to after foreign p s m xs
  ends_quietly p m xs all s none r =
      let c = r.quietly s none in
      record {
        reached = record { text = []; line = r.place.began; reply = Continues; place = r.place; spot = c.spot; meaning = r.meaning; rest = [] };
        reaches = c.reaches;
        all = refl;
        goes_on = refl;
        none_at_end = ap (λ s. (at_end references s).errors) r.is_in.at;
      }

  -- up to the end nothing was reported
  ends_telling_none : (p : ReaderPlace) (m : M) (xs : List ℕ) (all : List TokenText) (s : Spot) → HasNoInputErrors xs → Reached p m xs all false (EndOfFile ∷ []) []
      → TellsToEnd references reply_to after foreign p s m xs []
  ends_telling_none p m xs all s none r =
      let c = r.quietly s none in
      record {
        errors = [];
        place = r.place;
        spot = c.spot;
        meaning = r.meaning;
        tellings = more_telling no_telling c.reaches refl refl;
        told_are = sym (ap (λ (state : State). told_of_row (seen_ahead references state) (position r.place.line c.spot) (at_end references state).errors) r.is_in.at);
      }

  -- all of a document's text was read
  document_reached : (d : PlainDocument) (m : M) → IsReadableDocument d → Answers reply_to after m (document_tokens d) → Reached (first_place default_options) m (written_of d) (document_tokens d) false (EndOfFile ∷ []) []
  document_reached d m readable answers =
      let p = first_place default_options in
      let xs = written_of d in
      let all = document_tokens d in
      let first : Reached p m xs all false (document_tokens d) xs = record {
        place = p;
        meaning = m;
        handed = [];
        reply = Continues;
        goes = refl;
        read = nothing_read;
        is_in = record { at = refl; after_return = refl };
        answers = answers;
        whole = refl;
        quietly = λ s none. begins_quietly reply_to after foreign p s m xs none;
      } in
      nodes_taken p m xs all (as_written (root_of d)) (EndOfFile ∷ []) [] (shape_written (document_shape d)) (read_written (root_of d) readable) tt
      (doctype_taken p m xs all (tokens_before (as_written (root_of d)) (EndOfFile ∷ [])) (written_fragment (root_of d)) first)

  -- a document's text is read to its end, as the tokens of the document
  pub document_read : (d : PlainDocument) (m : M) → IsReadableDocument d → Answers reply_to after m (document_tokens d) → (n : M) × ReadsToEnd references reply_to after foreign ended (first_place default_options) m (written_of d) (document_tokens d) n
  document_read d m readable answers = ends (first_place default_options) m (written_of d) (document_tokens d) (document_reached d m readable answers)

  -- and without errors, if the text itself has none
  pub document_quietly : (d : PlainDocument) (m : M) (s : Spot) → IsReadableDocument d → Answers reply_to after m (document_tokens d) → HasNoInputErrors (written_of d)
      → ReadsWithoutErrors references reply_to after foreign (first_place default_options) s m (written_of d)
  document_quietly d m s readable answers none = ends_quietly (first_place default_options) m (written_of d) (document_tokens d) s none (document_reached d m readable answers)

  pub document_tells_nothing : (d : PlainDocument) (m : M) (s : Spot) → IsReadableDocument d → Answers reply_to after m (document_tokens d) → HasNoInputErrors (written_of d)
      → TellsToEnd references reply_to after foreign (first_place default_options) s m (written_of d) []
  document_tells_nothing d m s readable answers none =
      ends_telling_none (first_place default_options) m (written_of d) (document_tokens d) s none (document_reached d m readable answers)

  -- however it is read to its end, none is reported
  pub document_tells_none : (alike : M → M → Type 0) → IsBlindToCuts reply_to after foreign ended alike → (d : PlainDocument) (m : M) (s : Spot) (told : List LocatedError) → IsReadableDocument d
      → Answers reply_to after m (document_tokens d) → HasNoInputErrors (written_of d) → TellsToEnd references reply_to after foreign (first_place default_options) s m (written_of d) told → told ≡ []
  document_tells_none alike blind d m s told readable answers none tells =
      told_agree reply_to after foreign ended alike blind references (first_place default_options) s m m (written_of d) told [] (blind.reflexive m) tells
      (document_tells_nothing d m s readable answers none)

  -- read to the end, by all tokens but that the last text may come in two parts
  pub record ReadsCut (p : ReaderPlace) (m : M) (xs : List ℕ) (all : List TokenText) : Type 0 where
    pub tokens : List TokenText
    pub joined : join tokens ≡ join all
    pub meaning : M
    pub reads : ReadsToEnd references reply_to after foreign ended p m xs tokens meaning

  module _ (p : ReaderPlace) (m : M) (xs : List ℕ) (all : List TokenText) (cuts : AnswersCuts reply_to) where
    last_taken : (x : ℕ) (words : List ℕ) → IsReadable (x ∷ words) → Reached p m xs all false (Characters (x ∷ words) ∷ EndOfFile ∷ []) (escape false (x ∷ words)) → ReadsCut p m xs all
    last_taken x words readable r =
        let e = text_ends r.place x words readable r.is_in in
        at e.front e.back e.place e.passes e.held e.whole
      where
        closes : (q : ReaderPlace) (n : M) (hs : List TokenText) (reply : Reply) → Read references reply_to after foreign p m xs hs reply q n [] → goes_on reply ≡ true → (back : List ℕ) → last_tokens references q ≡ told back
            → join (hs ++ (told back ++ EndOfFile ∷ [])) ≡ join all → ReadsCut p m xs all
        closes q n hs reply read goes back held same = record {
          tokens = hs ++ (told back ++ EndOfFile ∷ []);
          joined = same;
          meaning = ended (after (after_all after n (last_tokens references q) q.began) EndOfFile q.line);
          reads = record {
            handed = hs;
            place = q;
            meaning = n;
            readings = more_reading no_reading read (unrefused reply goes);
            tokens = ap (λ l. hs ++ (l ++ EndOfFile ∷ [])) (sym held);
            closed = refl;
          };
        }

        in_two : (b : ℕ) (t back : List ℕ) → (b ∷ t) ++ back ≡ x ∷ words → join (Characters (b ∷ t) ∷ (told back ++ EndOfFile ∷ [])) ≡ Characters (x ∷ words) ∷ EndOfFile ∷ []
        in_two b t [] e = ap (λ l. Characters l ∷ EndOfFile ∷ []) (sym (append-nil (b ∷ t)) ∙ e)
        in_two b t (d ∷ u) e = ap (λ l. Characters l ∷ EndOfFile ∷ []) e

        at : (front back : List ℕ) (q : ReaderPlace) → Passes references r.place (escape false (x ∷ words)) front q [] → last_tokens references q ≡ told back → front ++ back ≡ x ∷ words → ReadsCut p m xs all
        at [] back q passes held whole =
            closes q r.meaning (r.handed ++ []) Continues (read_on r.read r.goes (quiet_step passes)) refl back held
            (joins_append (r.handed ++ []) r.handed (told back ++ EndOfFile ∷ []) (Characters (x ∷ words) ∷ EndOfFile ∷ []) (ap join (append-nil r.handed))
            (ap (λ l. join (told l ++ EndOfFile ∷ [])) whole) ∙ ap join r.whole)
        at (b ∷ t) back q passes held whole =
            let answer : reply_to r.meaning (Characters (b ∷ t)) ≡ Continues = cuts r.meaning b t back (ap (λ l. reply_to r.meaning (Characters l)) whole ∙ r.answers.0) in
            closes q (after r.meaning (Characters (b ∷ t)) r.place.began) (r.handed ++ Characters (b ∷ t) ∷ []) (reply_to r.meaning (Characters (b ∷ t))) (read_on r.read r.goes (text_step passes)) (ap goes_on answer) back held
            (ap join (append_assoc r.handed (Characters (b ∷ t) ∷ []) (told back ++ EndOfFile ∷ []))
            ∙ joins_append r.handed r.handed (Characters (b ∷ t) ∷ (told back ++ EndOfFile ∷ [])) (Characters (x ∷ words) ∷ EndOfFile ∷ []) refl (in_two b t back whole)
            ∙ ap join r.whole)

  -- the text of nodes is read to its end, as their tokens, but that a text at its end may come in two parts
  nodes_read : {b : Bool} (ns : Nodes) (m : M) → Shape b ns → CanBeRead ns → AnswersCuts reply_to → Answers reply_to after m (tokens_before ns (EndOfFile ∷ []))
      → ReadsCut (first_place default_options) m (written_before ns []) (tokens_before ns (EndOfFile ∷ []))
  nodes_read ns m shape readable cuts answers = at (ending ns shape)
    where
      first : Reached (first_place default_options) m (written_before ns []) (tokens_before ns (EndOfFile ∷ [])) false (tokens_before ns (EndOfFile ∷ [])) (written_before ns [])
      first = record {
        place = first_place default_options;
        meaning = m;
        handed = [];
        reply = Continues;
        goes = refl;
        read = nothing_read;
        is_in = record { at = refl; after_return = refl };
        answers = answers;
        whole = refl;
        quietly = λ s none. begins_quietly reply_to after foreign (first_place default_options) s m (written_before ns []) none;
      }

      by_text : (front : Nodes) (t : List ℕ) (x : ℕ) (words : List ℕ) → t ≡ x ∷ words → Splits ns front t → ReadsCut (first_place default_options) m (written_before ns []) (tokens_before ns (EndOfFile ∷ []))
      by_text front t x words e s =
          let p = first_place default_options in
          let xs = written_before ns [] in
          let all = tokens_before ns (EndOfFile ∷ []) in
          let c = split_read s readable in
          let begun : Reached p m xs all false (tokens_before front (Characters t ∷ EndOfFile ∷ [])) (written_before front (escape false t)) =
          subst (λ l. Reached p m xs all false (tokens_before front (Characters t ∷ EndOfFile ∷ [])) l) (split_written s) (subst (λ ts. Reached p m xs all false ts xs) (split_tokens (EndOfFile ∷ []) s) first) in
          let before = nodes_taken p m xs all front (Characters t ∷ EndOfFile ∷ []) (escape false t) (split_shape s shape) c.0 (split_room s) begun in
          last_taken p m xs all cuts x words (subst IsReadable e c.1) (subst (λ l. Reached p m xs all false (Characters l ∷ EndOfFile ∷ []) (escape false l)) e before)

      at : Ending ns → ReadsCut (first_place default_options) m (written_before ns []) (tokens_before ns (EndOfFile ∷ []))
      at (InTag room) =
          let p = first_place default_options in
          let xs = written_before ns [] in
          let all = tokens_before ns (EndOfFile ∷ []) in
          let r = ends p m xs all (nodes_taken p m xs all ns (EndOfFile ∷ []) [] shape readable room first) in
          record { tokens = all; joined = refl; meaning = r.0; reads = r.1 }
      at (InText {front} {t} s) = let f = split_filled s shape in by_text front t f.first f.more f.is s

  -- so is a fragment's text
  pub fragment_read : {b : Bool} (ns : Nodes) (m : M) → Shape b ns → CanBeRead ns → AnswersCuts reply_to → Answers reply_to after m (fragment_tokens ns)
      → ReadsCut (first_place default_options) m (written_fragment ns) (fragment_tokens ns)
  fragment_read ns m shape readable cuts answers = nodes_read (as_written ns) m (shape_written shape) (read_written ns readable) cuts answers

  -- in the middle of an input, the text of nodes is read as their tokens, from data to data
  pub nodes_inside : {b : Bool} (ns : Nodes) (p : ReaderPlace) (m : M) (rest : List ℕ) → Shape b ns → CanBeRead ns → IsSome rest → IsIn p (TextState text.Data) → Answers reply_to after m (tokens_before ns [])
      → Reached p m (written_before ns rest) (tokens_before ns []) false [] rest
  nodes_inside ns p m rest shape readable some is answers =
      let xs = written_before ns rest in
      let first : Reached p m xs (tokens_before ns []) false (tokens_before ns []) xs = record {
        place = p;
        meaning = m;
        handed = [];
        reply = Continues;
        goes = refl;
        read = nothing_read;
        is_in = is;
        answers = answers;
        whole = refl;
        quietly = λ s none. begins_quietly reply_to after foreign p s m xs none;
      } in
      nodes_taken p m xs (tokens_before ns []) ns [] rest shape readable (room ns rest some) first
