-- A plain document is read back.
use Rattle.std.proofs.Common.{◌≡◌, ◌⊎◌, ℕ, ◌<◌, Bool, true, false, List, [], ◌∷◌, ◌++◌, cond, length, refl, sym, ap, ◌∙◌, subst, arith, append_assoc, length-append, codes, inl, inr, None as Nothing}
use Rattle.std.proofs.lemmas.Bool.{false≢true}
use Rattle.h5_names.specs.AttributeText.{AttributeText, is_same_text}
use Rattle.h5_token.specs.TokenText.{TokenText, DoctypeIs, TagIs, CommentIs, Characters, NullCharacter, EndOfFile, ParseErrorIs}
use Rattle.h5_token.specs.Reply.{Reply, Continues, TurnsRaw}
use Rattle.h5_token.specs.declared.states.RawKind.TheVariants.{Rcdata}
use Rattle.h5_markup.specs.Matching.{Found, Match, No, Open}
use Rattle.h5_markup.proofs.Finds.{literal_gives}
use Rattle.h5_serialize.specs.Escape.{escape}
use Rattle.h5_markup.specs.Text.{text_of}
use Rattle.h5_plain_tokenizer.specs.declared.front.Mode.{Mode}
use Rattle.h5_plain_tokenizer.specs.declared.front.Mode.TheVariants.{Data, RawData}
use Rattle.h5_tokenizer_input.specs.Answers.{goes_on}
use Rattle.h5_tokenizer_input.proofs.AnswerLaws.{unrefused}
use Rattle.h5_plain_tokenizer.specs.End.{settle}
use Rattle.h5_standard_tokenizer.specs.Mark.{behind_mark, is_open}
use Rattle.h5_standard_tokenizer.specs.Mark as standard
use Rattle.h5_plain_tokenizer.specs.Front.{Piece, ReaderPlace, Whole, front, mark}
use Rattle.h5_tokenizer_input.specs.Options.{default_options}
use Rattle.h5_plain_tokenizer.specs.Options.{first_place}
use Rattle.h5_plain_tokenizer.specs.Read.{Bits, Read, behind, chosen_mode, next_place, nothing_read, read_on, started, text_step, token_step, unmarked}
use Rattle.h5_tokenizer_input.specs.Lines.{line_behind}
use Rattle.h5_plain_tokenizer.specs.Whole.{Readings, ReadsToEnd, after_closing, closing, more_reading, no_reading}
use Rattle.h5_builder_laws.specs.Plain.{ArePlain, ElementThen, End, Nodes, PlainDocument, TextThen, as_written, document_tokens, end_tag, fragment_tokens, has_end_tag, is_start_of_title, plain_doctype, plain_reply, root_of, start_tag, tokens_before}
use Rattle.h5_round_trip.specs.Answers.{Answers}
use Rattle.h5_round_trip.specs.Readable.{AreReadable, CanBeRead, IsReadable, IsReadableDocument}
use Rattle.h5_round_trip.specs.Written.{tag_written, written_before, written_fragment, written_of}
use Rattle.h5_round_trip.proofs.CharLaws.{some_written, text_mode, text_read}
use Rattle.h5_round_trip.proofs.DoubledLaws.{read_written, shape_written}
use Rattle.h5_round_trip.proofs.MarkLaws.{text_begins}
use Rattle.h5_round_trip.proofs.ShapeLaws.{Element, None, Shape, Text, Title, Void, document_shape, is_title}
use Rattle.h5_round_trip.proofs.TagLaws.{IsTagName, doctype_read, end_read, start_read, title_end_read}

-- in data, or in the text of a title
abbrev pub In : (title : Bool) → ReaderPlace → Type 0
In false p = (p.at_start ≡ false) × (p.mode ≡ Data)
In true p = (p.at_start ≡ false) × ((p.mode ≡ RawData Rcdata) × (p.last ≡ codes "title"))

in_started : (title : Bool) (p : ReaderPlace) → In title p → p.at_start ≡ false
in_started false p h = h.0
in_started true p h = h.0

in_text : (title : Bool) (p : ReaderPlace) → In title p → p.mode ≡ text_mode title
in_text false p h = h.1
in_text true p h = h.1.0

pub in_behind : (title : Bool) (p : ReaderPlace) (xs ys : List ℕ) → In title p → In title (behind p xs ys)
in_behind false p xs ys h = h
in_behind true p xs ys h = h

plain_goes : (t : TokenText) → goes_on (plain_reply t) ≡ true
plain_goes (TagIs tag) = by (is_start_of_title tag)
  where
    by : (b : Bool) → goes_on (cond b (TurnsRaw Rcdata) Continues) ≡ true
    by true = refl
    by false = refl
plain_goes (DoctypeIs d) = refl
plain_goes (CommentIs d) = refl
plain_goes (Characters d) = refl
plain_goes NullCharacter = refl
plain_goes EndOfFile = refl
plain_goes (ParseErrorIs d) = refl

-- the place after a start tag, and after an end tag
behind_start : (q : ReaderPlace) (name : List ℕ) (attrs : List AttributeText) (reply : Reply) (text rest : List ℕ) → is_same_text name (codes "title") ≡ false → In false q → reply ≡ plain_reply (start_tag name attrs) → In false (behind (next_place q (start_tag name attrs) reply) text rest)
behind_start q name attrs reply text rest other i e = (i.0, ap chosen_mode e ∙ ap (λ b. chosen_mode (cond b (TurnsRaw Rcdata) Continues)) other)

behind_title : (q : ReaderPlace) (attrs : List AttributeText) (reply : Reply) (text rest : List ℕ) → In false q → reply ≡ plain_reply (start_tag (codes "title") attrs) → In true (behind (next_place q (start_tag (codes "title") attrs) reply) text rest)
behind_title q attrs reply text rest i e = (i.0, (ap chosen_mode e, refl))

behind_end : (title : Bool) (q : ReaderPlace) (name : List ℕ) (reply : Reply) (text rest : List ℕ) → In title q → In false (behind (next_place q (end_tag name) reply) text rest)
behind_end title q name reply text rest i = (in_started title q i, refl)

pub front_in : (q : ReaderPlace) (mode : Mode) (foreign : Bool) (text : List ℕ) (piece : Match Piece) → q.mode ≡ mode → front mode q.last foreign text ≡ piece → front q.mode q.last foreign text ≡ piece
front_in q mode foreign text piece e h = ap (λ m. front m q.last foreign text) e ∙ h

front_title : (q : ReaderPlace) (foreign : Bool) (text : List ℕ) (piece : Match Piece) → In true q → front (RawData Rcdata) (codes "title") foreign text ≡ piece → front q.mode q.last foreign text ≡ piece
front_title q foreign text piece i h = (λ k. front (i.1.0 k) (i.1.1 k) foreign text) ∙ h

module _ {M : Type 0} (reply_to : M → TokenText → Reply) (after : M → TokenText → ℕ → M) (foreign : M → Bool) (ended : M → M) where
  -- from a place on some of all tokens were read; more of them, and this text, are left
  pub record Reached (p : ReaderPlace) (m : M) (xs : List ℕ) (all : List TokenText) (title : Bool) (more : List TokenText) (rest : List ℕ) : Type 0 where
    pub place : ReaderPlace
    pub meaning : M
    pub handed : List TokenText
    pub reply : Reply
    pub goes : goes_on reply ≡ true
    pub read : Read reply_to after foreign p m xs handed reply place meaning rest
    pub is_in : In title place
    pub answers : Answers reply_to after meaning more
    pub whole : handed ++ more ≡ all

  module _ (p : ReaderPlace) (m : M) (xs : List ℕ) (all : List TokenText) where
    pub token_taken : (title next : Bool) (t : TokenText) (more : List TokenText) (text rest : List ℕ)
        → ((q : ReaderPlace) (foreign : Bool) → In title q → front q.mode q.last foreign text ≡ Found (Whole t) rest)
        → ((q : ReaderPlace) (reply : Reply) → In title q → reply ≡ plain_reply t → In next (behind (next_place q t reply) text rest))
        → Reached p m xs all title (t ∷ more) text → Reached p m xs all next more rest
    token_taken title next t more text rest here leads r = record {
      place = behind (next_place r.place t (reply_to r.meaning t)) text rest;
      meaning = after r.meaning t r.place.line;
      handed = r.handed ++ t ∷ [];
      reply = reply_to r.meaning t;
      goes = ap goes_on r.answers.0 ∙ plain_goes t;
      read = read_on r.read r.goes (token_step t (in_started title r.place r.is_in) (here r.place (foreign r.meaning) r.is_in));
      is_in = leads r.place (reply_to r.meaning t) r.is_in r.answers.0;
      answers = r.answers.1 r.place.line;
      whole = append_assoc r.handed (t ∷ []) more ∙ r.whole;
    }

    pub text_taken : (title : Bool) (x : ℕ) (text : List ℕ) (more : List TokenText) (rest : List ℕ) → IsReadable (x ∷ text)
        → Reached p m xs all title (Characters (x ∷ text) ∷ more) (escape false (x ∷ text) ++ rest) → Reached p m xs all title more rest
    text_taken title x text more rest readable r =
        let written = escape false (x ∷ text) ++ rest in
        let bits : Bits r.place.mode r.place.last (foreign r.meaning) written (x ∷ text) rest =
        subst (λ (mode : Mode). Bits mode r.place.last (foreign r.meaning) written (x ∷ text) rest) (sym (in_text title r.place r.is_in)) (text_read title r.place.last (foreign r.meaning) x text rest readable) in
        let less : length rest < length written = omega (arith, length-append (escape false (x ∷ text)) rest, some_written x text readable) in
        record {
          place = behind r.place written rest;
          meaning = after r.meaning (Characters (x ∷ text)) r.place.line;
          handed = r.handed ++ Characters (x ∷ text) ∷ [];
          reply = reply_to r.meaning (Characters (x ∷ text));
          goes = ap goes_on r.answers.0;
          read = read_on r.read r.goes (text_step (x ∷ text) (in_started title r.place r.is_in) less bits);
          is_in = in_behind title r.place written rest r.is_in;
          answers = r.answers.1 r.place.line;
          whole = append_assoc r.handed (Characters (x ∷ text) ∷ []) more ∙ r.whole;
        }

    pub start_taken : (name : List ℕ) (attrs : List AttributeText) (more : List TokenText) (rest : List ℕ) → IsTagName name → is_same_text name (codes "title") ≡ false → ArePlain attrs → AreReadable attrs
        → Reached p m xs all false (start_tag name attrs ∷ more) (codes "<" ++ (tag_written name attrs ++ (codes ">" ++ rest))) → Reached p m xs all false more rest
    start_taken name attrs more rest tag other plain readable r =
        let text = codes "<" ++ (tag_written name attrs ++ (codes ">" ++ rest)) in
        token_taken false false (start_tag name attrs) more text rest
        (λ q f i. front_in q Data f text (Found (Whole (start_tag name attrs)) rest) i.1 (start_read q.last f name attrs rest tag plain readable))
        (λ q reply i e. behind_start q name attrs reply text rest other i e)
        r

    pub title_taken : (attrs : List AttributeText) (more : List TokenText) (rest : List ℕ) → ArePlain attrs → AreReadable attrs
        → Reached p m xs all false (start_tag (codes "title") attrs ∷ more) (codes "<" ++ (tag_written (codes "title") attrs ++ (codes ">" ++ rest))) → Reached p m xs all true more rest
    title_taken attrs more rest plain readable r =
        let text = codes "<" ++ (tag_written (codes "title") attrs ++ (codes ">" ++ rest)) in
        token_taken false true (start_tag (codes "title") attrs) more text rest
        (λ q f i. front_in q Data f text (Found (Whole (start_tag (codes "title") attrs)) rest) i.1 (start_read q.last f (codes "title") attrs rest is_title.tag plain readable))
        (λ q reply i e. behind_title q attrs reply text rest i e)
        r

    pub end_taken : (name : List ℕ) (more : List TokenText) (rest : List ℕ) → IsTagName name
        → Reached p m xs all false (end_tag name ∷ more) (codes "</" ++ (name ++ (codes ">" ++ rest))) → Reached p m xs all false more rest
    end_taken name more rest tag r =
        let text = codes "</" ++ (name ++ (codes ">" ++ rest)) in
        token_taken false false (end_tag name) more text rest
        (λ q f i. front_in q Data f text (Found (Whole (end_tag name)) rest) i.1 (end_read q.last f name rest tag))
        (λ q reply i e. behind_end false q name reply text rest i)
        r

    pub title_end_taken : (more : List TokenText) (rest : List ℕ)
        → Reached p m xs all true (end_tag (codes "title") ∷ more) (codes "</title>" ++ rest) → Reached p m xs all false more rest
    title_end_taken more rest r =
        let text = codes "</title>" ++ rest in
        token_taken true false (end_tag (codes "title")) more text rest
        (λ q f i. front_title q f text (Found (Whole (end_tag (codes "title"))) rest) i (title_end_read f rest))
        (λ q reply i e. behind_end true q (codes "title") reply text rest i)
        r

    pub doctype_taken : (more : List TokenText) (rest : List ℕ)
        → Reached p m xs all false (plain_doctype ∷ more) (codes "<!DOCTYPE html>" ++ rest) → Reached p m xs all false more rest
    doctype_taken more rest r =
        let text = codes "<!DOCTYPE html>" ++ rest in
        token_taken false false plain_doctype more text rest
        (λ q f i. front_in q Data f text (Found (Whole plain_doctype) rest) i.1 (doctype_read q.last f rest))
        (λ q reply i e. in_behind false q text rest i)
        r

    -- where it is known whether an element has an end tag
    known : (b : Bool) (name : List ℕ) (attrs : List AttributeText) (inner others : Nodes) (more : List TokenText) (rest : List ℕ) → has_end_tag name ≡ b
        → Reached p m xs all false (tokens_before (ElementThen name attrs inner others) more) (written_before (ElementThen name attrs inner others) rest)
        → Reached p m xs all false
        (start_tag name attrs ∷ cond b (tokens_before inner (end_tag name ∷ tokens_before others more)) (tokens_before others more))
        (codes "<" ++ (tag_written name attrs ++ (codes ">" ++ cond b (written_before inner (codes "</" ++ (name ++ (codes ">" ++ written_before others rest)))) (written_before others rest))))
    known b name attrs inner others more rest e r =
        subst (λ (c : Bool). Reached p m xs all false
        (start_tag name attrs ∷ cond c (tokens_before inner (end_tag name ∷ tokens_before others more)) (tokens_before others more))
        (codes "<" ++ (tag_written name attrs ++ (codes ">" ++ cond c (written_before inner (codes "</" ++ (name ++ (codes ">" ++ written_before others rest)))) (written_before others rest))))) e r

    nodes_taken : {b : Bool} (ns : Nodes) (more : List TokenText) (rest : List ℕ) → Shape b ns → CanBeRead ns
        → Reached p m xs all false (tokens_before ns more) (written_before ns rest) → Reached p m xs all false more rest
    nodes_taken End more rest None c r = r
    nodes_taken _ more rest (Text {first} {more = words} {rest = others} s) c r =
        nodes_taken others more rest s c.1 (text_taken false first words (tokens_before others more) (written_before others rest) c.0 r)
    nodes_taken _ more rest (Void {name} {attrs} {rest = others} v plain s) c r =
        nodes_taken others more rest s c.1.1
        (start_taken name attrs (tokens_before others more) (written_before others rest) v.tag v.other plain c.0 (known false name attrs End others more rest v.ends r))
    nodes_taken _ more rest (Element {name} {attrs} {inner} {rest = others} o plain i s) c r =
        let ending = codes "</" ++ (name ++ (codes ">" ++ written_before others rest)) in
        nodes_taken others more rest s c.1.1
        (end_taken name (tokens_before others more) (written_before others rest) o.tag
        (nodes_taken inner (end_tag name ∷ tokens_before others more) ending i c.1.0
        (start_taken name attrs (tokens_before inner (end_tag name ∷ tokens_before others more)) (written_before inner ending) o.tag o.other plain c.0 (known true name attrs inner others more rest o.ends r))))
    nodes_taken _ more rest (Title {attrs} {first} {more = words} {rest = others} plain s) c r =
        let ending = codes "</title>" ++ written_before others rest in
        nodes_taken others more rest s c.1.1
        (title_end_taken (tokens_before others more) (written_before others rest)
        (text_taken true first words (end_tag (codes "title") ∷ tokens_before others more) ending c.1.0.0
        (title_taken attrs (Characters (first ∷ words) ∷ end_tag (codes "title") ∷ tokens_before others more) (escape false (first ∷ words) ++ ending) plain c.0
        (known true (codes "title") attrs (TextThen (first ∷ words) End) others more rest is_title.ends r))))

  nothing_settled : (place : ReaderPlace) (f : Bool) → place.mode ≡ Data → settle place.mode place.last f [] ≡ Nothing
  unfolding text_of
  nothing_settled place f i = ap (λ mode. settle mode place.last f []) i

  module _ {p : ReaderPlace} {m : M} {xs : List ℕ} {all : List TokenText} where
    -- the end, in data, if nothing is left
    closes : {place : ReaderPlace} {meaning : M} {handed : List TokenText} → Readings reply_to after foreign p m xs handed place meaning [] → place.mode ≡ Data → handed ++ EndOfFile ∷ [] ≡ all → (n : M) × ReadsToEnd reply_to after foreign ended p m xs all n
    closes {place} {meaning} {handed} readings i whole =
        let none = nothing_settled place (foreign meaning) i in (
          ended (after_closing after meaning (settle place.mode place.last (foreign meaning) []) place.line (line_behind place.line [] [])),
          record {
            handed = handed;
            place = place;
            meaning = meaning;
            rest = [];
            readings = readings;
            undecided = ((λ _. refl), (λ _. ap (λ mode. front mode place.last (foreign meaning) []) i));
            tokens = sym whole ∙ ap (λ o. handed ++ closing o) (sym none);
            closed = refl;
          },
        )

  pub ends : (p : ReaderPlace) (m : M) (xs : List ℕ) (all : List TokenText) → Reached p m xs all false (EndOfFile ∷ []) [] → (n : M) × ReadsToEnd reply_to after foreign ended p m xs all n
  ends p m xs all r = closes (more_reading no_reading r.read (unrefused r.reply r.goes)) r.is_in.1 r.whole

  -- at the start, if no byte order mark is there
  begun : (m : M) (xs : List ℕ) (all : List TokenText) → mark xs ≡ No → Answers reply_to after m all → Reached (first_place default_options) m xs all false all xs
  begun m xs all none answers = record {
    place = started (first_place default_options);
    meaning = m;
    handed = [];
    reply = Continues;
    goes = refl;
    read = read_on nothing_read refl (unmarked refl none);
    is_in = (refl, refl);
    answers = answers;
    whole = refl;
  }

  -- a document's text is read to its end, as the tokens of the document
  pub document_read : (d : PlainDocument) (m : M) → IsReadableDocument d → Answers reply_to after m (document_tokens d) → (n : M) × ReadsToEnd reply_to after foreign ended (first_place default_options) m (written_of d) (document_tokens d) n
  document_read d m readable answers =
      let p = first_place default_options in
      let xs = written_of d in
      let all = document_tokens d in
      ends p m xs all
      (nodes_taken p m xs all (as_written (root_of d)) (EndOfFile ∷ []) [] (shape_written (document_shape d)) (read_written (root_of d) readable)
      (doctype_taken p m xs all (tokens_before (as_written (root_of d)) (EndOfFile ∷ [])) (written_fragment (root_of d)) (begun m xs all refl answers)))

  -- so is the text of nodes, unless it begins with the mark
  nodes_read : {b : Bool} (ns : Nodes) (m : M) → Shape b ns → CanBeRead ns → behind_mark true (written_before ns []) ≡ written_before ns [] → Answers reply_to after m (tokens_before ns (EndOfFile ∷ []))
      → (n : M) × ReadsToEnd reply_to after foreign ended (first_place default_options) m (written_before ns []) (tokens_before ns (EndOfFile ∷ [])) n
  nodes_read ns m shape readable same answers = by (text_begins ns [] shape readable)
    where
      at : (found : Match (Unit {0})) → mark (written_before ns []) ≡ found → is_open found ≡ false
          → (n : M) × ReadsToEnd reply_to after foreign ended (first_place default_options) m (written_before ns []) (tokens_before ns (EndOfFile ∷ [])) n
      at Open e o = absurd (false≢true (sym o))
      at No e o =
          let p = first_place default_options in
          let xs = written_before ns [] in
          let all = tokens_before ns (EndOfFile ∷ []) in
          ends p m xs all (nodes_taken p m xs all ns (EndOfFile ∷ []) [] shape readable (begun m xs all e answers))
      at (Found found rest) e o =
          let left : rest ≡ written_before ns [] = sym (ap (standard.behind (written_before ns [])) e) ∙ same in
          absurd (omega (arith, ap length left, ap length (literal_gives (0xef ∷ 0xbb ∷ 0xbf ∷ []) (written_before ns []) rest e)))

      by : (ns ≡ End) ⊎ (is_open (mark (written_before ns [])) ≡ false)
          → (n : M) × ReadsToEnd reply_to after foreign ended (first_place default_options) m (written_before ns []) (tokens_before ns (EndOfFile ∷ [])) n
      by (inl none) = subst (λ l. (n : M) × ReadsToEnd reply_to after foreign ended (first_place default_options) m (written_before l []) (tokens_before l (EndOfFile ∷ [])) n) (sym none) (closes no_reading refl refl)
      by (inr known) = at (mark (written_before ns [])) refl known

  -- and a fragment's
  pub fragment_read : {b : Bool} (ns : Nodes) (m : M) → Shape b ns → CanBeRead ns → behind_mark true (written_fragment ns) ≡ written_fragment ns → Answers reply_to after m (fragment_tokens ns)
      → (n : M) × ReadsToEnd reply_to after foreign ended (first_place default_options) m (written_fragment ns) (fragment_tokens ns) n
  fragment_read ns m shape readable same answers = nodes_read (as_written ns) m (shape_written shape) (read_written ns readable) same answers

  -- in the middle of an input, the text of nodes is read as their tokens, from data to data
  pub nodes_inside : {b : Bool} (ns : Nodes) (p : ReaderPlace) (m : M) (rest : List ℕ) → Shape b ns → CanBeRead ns → In false p → Answers reply_to after m (tokens_before ns [])
      → Reached p m (written_before ns rest) (tokens_before ns []) false [] rest
  nodes_inside ns p m rest shape readable is answers =
      let xs = written_before ns rest in
      let first : Reached p m xs (tokens_before ns []) false (tokens_before ns []) xs = record {
        place = p;
        meaning = m;
        handed = [];
        reply = Continues;
        goes = refl;
        read = nothing_read;
        is_in = is;
        answers = answers;
        whole = refl;
      } in
      nodes_taken p m xs (tokens_before ns []) ns [] rest shape readable first
