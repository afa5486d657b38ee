-- At a byte that is neither '>' nor, if these count, NUL or '[', no row emits a token or checks the adjusted current node.
use Rattle.std.proofs.Common.{◌≡◌, ℕ, Bool, true, false, refl, sym, subst, ◌∙◌, List, [], ◌∷◌, ◌++◌, ◌==◌, ◌&&◌, codes, if◌then◌else◌}
use Rattle.std.proofs.lemmas.Bool.{and_parts, eq-eqb, eqb-true, false≢true, ne_eqb, true≢false}
use Rattle.std.specs.Char.{is_ascii_alphabetic, is_ascii_digit, to_ascii_lowercase}
use Rattle.std.specs.Prelude.{Option, Some, None, length}
use Rattle.h5_token.specs.TokenText.{DoctypeText}
use Rattle.h5_tokenizer_spec.specs.declared.kinds.TextKind.{TextKind}
use Rattle.h5_tokenizer_spec.specs.declared.kinds.TextKind.TheVariants.{Data, Rcdata, Rawtext, ScriptData, Plaintext, CdataSection}
use Rattle.h5_tokenizer_spec.specs.declared.kinds.RawTextKind.{RawTextKind}
use Rattle.h5_tokenizer_spec.specs.declared.kinds.RawTextKind.TheVariants as raw
use Rattle.h5_tokenizer_spec.specs.declared.kinds.Escape.{Escape}
use Rattle.h5_tokenizer_spec.specs.declared.kinds.Escape.TheVariants.{Escaped, DoubleEscaped}
use Rattle.h5_tokenizer_spec.specs.declared.kinds.Identifier.{Identifier}
use Rattle.h5_tokenizer_spec.specs.declared.kinds.Quote.{Quote}
use Rattle.h5_tokenizer_spec.specs.Signs.{is_alphanumeric, is_blank, is_hex_digit, greater_than_sign, null, number_sign, semicolon, solidus}
use Rattle.h5_tokenizer_spec.specs.Words.{begins, is_all, same}
use Rattle.h5_tokenizer_spec.specs.Construction.{Tag}
use Rattle.h5_tokenizer_spec.specs.States as s
use Rattle.h5_tokenizer_spec.specs.States.{State, Return, ToData, ToRcdata, ToValue, Value, Quoted, Unquoted}
use Rattle.h5_tokenizer_spec.specs.Turn.{Turn, flush, flush_again}
use Rattle.h5_tokenizer_spec.specs.Texts as t
use Rattle.h5_tokenizer_spec.specs.Tags as g
use Rattle.h5_tokenizer_spec.specs.Comments as c
use Rattle.h5_tokenizer_spec.specs.Doctypes as d
use Rattle.h5_tokenizer_spec.specs.References as r
use Rattle.h5_tokenizer_spec.specs.References.{Reference, Longest, ends_in, is_beginning, is_historical, longest}
use Rattle.h5_tokenizer_spec.specs.Machine.{turn}
use Rattle.h5_tokenizer_spec.specs.Lines.{normal}
use Rattle.h5_tokenizer_spec.specs.Reading.{outcome}
use Rattle.h5_tokenizer_spec.specs.ReferenceTable.{references}
use Rattle.h5_tokenizer_states.specs.MachineText.{IsQuiet, MachineText, asks_in, hands_null, place_of}
use Rattle.h5_tokenizer_states.specs.StateOf.{state_of}

record Quiet (turn : Turn) : Type 0 where
  pub outcome : IsQuiet turn.outcome

quiet : {turn : Turn} → IsQuiet turn.outcome → Quiet turn
quiet h = record { outcome = h }

-- bytes that aren't there
never : {turn : Turn} (b : Bool) → b ≡ true → b ≡ false → Quiet turn
never b h g = absurd (false≢true (sym g ∙ h))

either : (b : Bool) (turn other : Turn) → (b ≡ true → Quiet turn) → (b ≡ false → Quiet other) → Quiet (if b then turn else other)
either true turn other f g = f refl
either false turn other f g = g refl

text_quiet : (kind : TextKind) (x : ℕ) → (hands_null (s.Text kind) ≡ true → (x == null) ≡ false) → Quiet (t.text_state kind x)
text_quiet Data x g = let h : (x == null) ≡ false = g refl in search (either, quiet, never) depth 12
text_quiet Rcdata x g = search (either, quiet, never) depth 12
text_quiet Rawtext x g = search (either, quiet, never) depth 12
text_quiet ScriptData x g = search (either, quiet, never) depth 12
text_quiet Plaintext x g = search (either, quiet, never) depth 12
text_quiet CdataSection x g = let h : (x == null) ≡ false = g refl in search (either, quiet, never) depth 12

raw_less_than_quiet : (kind : RawTextKind) (x : ℕ) → Quiet (t.raw_less_than_sign_state kind x)
raw_less_than_quiet raw.Rcdata x = search (either, quiet) depth 12
raw_less_than_quiet raw.Rawtext x = search (either, quiet) depth 12
raw_less_than_quiet raw.ScriptData x = search (either, quiet) depth 12
raw_less_than_quiet raw.EscapedScriptData x = search (either, quiet) depth 12

raw_end_tag_open_quiet : (kind : RawTextKind) (x : ℕ) → Quiet (t.raw_end_tag_open_state kind x)
raw_end_tag_open_quiet kind x = search (either, quiet) depth 12

raw_end_tag_name_quiet : (last : List ℕ) (kind : RawTextKind) (buffer : List ℕ) (x : ℕ) → (x == greater_than_sign) ≡ false → Quiet (t.raw_end_tag_name_state last kind buffer x)
raw_end_tag_name_quiet last kind buffer x h =
    let appropriate = t.is_appropriate last buffer in
    either (appropriate && is_blank x) _ _ (λ _. quiet tt)
    (λ _. either (appropriate && x == solidus) _ _ (λ _. quiet tt)
    (λ _. either (appropriate && x == greater_than_sign) _ _ (λ e. never (x == greater_than_sign) (and_parts appropriate (x == greater_than_sign) e).1 h)
    (λ _. either (is_ascii_alphabetic x) _ _ (λ _. quiet tt) (λ _. quiet tt))))

escape_start_quiet : (x : ℕ) → Quiet (t.script_data_escape_start_state x)
escape_start_quiet x = search (either, quiet) depth 12

escape_start_dash_quiet : (x : ℕ) → Quiet (t.script_data_escape_start_dash_state x)
escape_start_dash_quiet x = search (either, quiet) depth 12

escaped_quiet : (depth : Escape) (x : ℕ) → Quiet (t.script_data_escaped_state depth x)
escaped_quiet Escaped x = search (either, quiet) depth 12
escaped_quiet DoubleEscaped x = search (either, quiet) depth 12

escaped_dash_quiet : (depth : Escape) (x : ℕ) → Quiet (t.script_data_escaped_dash_state depth x)
escaped_dash_quiet Escaped x = search (either, quiet) depth 12
escaped_dash_quiet DoubleEscaped x = search (either, quiet) depth 12

escaped_dash_dash_quiet : (depth : Escape) (x : ℕ) → Quiet (t.script_data_escaped_dash_dash_state depth x)
escaped_dash_dash_quiet Escaped x = search (either, quiet) depth 12
escaped_dash_dash_quiet DoubleEscaped x = search (either, quiet) depth 12

double_escape_start_quiet : (buffer : List ℕ) (x : ℕ) → Quiet (t.script_data_double_escape_start_state buffer x)
double_escape_start_quiet buffer x = search (either, quiet) depth 12

double_less_than_quiet : (x : ℕ) → Quiet (t.script_data_double_escaped_less_than_sign_state x)
double_less_than_quiet x = search (either, quiet) depth 12

double_escape_end_quiet : (buffer : List ℕ) (x : ℕ) → Quiet (t.script_data_double_escape_end_state buffer x)
double_escape_end_quiet buffer x = search (either, quiet) depth 12

cdata_bracket_quiet : (x : ℕ) → Quiet (t.cdata_section_bracket_state x)
cdata_bracket_quiet x = search (either, quiet) depth 12

cdata_end_quiet : (x : ℕ) → Quiet (t.cdata_section_end_state x)
cdata_end_quiet x = search (either, quiet) depth 12

tag_open_quiet : (x : ℕ) → Quiet (g.tag_open_state x)
tag_open_quiet x = search (either, quiet) depth 12

end_tag_open_quiet : (x : ℕ) → Quiet (g.end_tag_open_state x)
end_tag_open_quiet x = search (either, quiet) depth 12

tag_name_quiet : (tag : Tag) (x : ℕ) → (x == greater_than_sign) ≡ false → Quiet (g.tag_name_state tag x)
tag_name_quiet tag x h = search (either, quiet, never) depth 12

before_attribute_name_quiet : (tag : Tag) (x : ℕ) → (x == greater_than_sign) ≡ false → Quiet (g.before_attribute_name_state tag x)
before_attribute_name_quiet tag x h = search (either, quiet, never) depth 12

attribute_name_quiet : (tag : Tag) (x : ℕ) → (x == greater_than_sign) ≡ false → Quiet (g.attribute_name_state tag x)
attribute_name_quiet tag x h = search (either, quiet, never) depth 12

after_attribute_name_quiet : (tag : Tag) (x : ℕ) → (x == greater_than_sign) ≡ false → Quiet (g.after_attribute_name_state tag x)
after_attribute_name_quiet tag x h = search (either, quiet, never) depth 12

before_attribute_value_quiet : (tag : Tag) (x : ℕ) → (x == greater_than_sign) ≡ false → Quiet (g.before_attribute_value_state tag x)
before_attribute_value_quiet tag x h = search (either, quiet, never) depth 12

attribute_value_quiet : (value : Value) (tag : Tag) (x : ℕ) → (x == greater_than_sign) ≡ false → Quiet (g.attribute_value_state value tag x)
attribute_value_quiet (Quoted quote) tag x h = search (either, quiet, never) depth 12
attribute_value_quiet Unquoted tag x h = search (either, quiet, never) depth 12

after_attribute_value_quiet : (tag : Tag) (x : ℕ) → (x == greater_than_sign) ≡ false → Quiet (g.after_attribute_value_quoted_state tag x)
after_attribute_value_quiet tag x h = search (either, quiet, never) depth 12

self_closing_quiet : (tag : Tag) (x : ℕ) → (x == greater_than_sign) ≡ false → Quiet (g.self_closing_start_tag_state tag x)
self_closing_quiet tag x h = search (either, quiet, never) depth 12

bogus_comment_quiet : (comment : List ℕ) (x : ℕ) → (x == greater_than_sign) ≡ false → Quiet (c.bogus_comment_state comment x)
bogus_comment_quiet comment x h = search (either, quiet, never) depth 12

-- only a last byte follows all of a word except its last byte
nothing_behind : (seen : List ℕ) (x : ℕ) → begins same (seen ++ x ∷ []) [] ≡ false
nothing_behind [] x = refl
nothing_behind (y ∷ seen) x = refl

last_is : (seen word : List ℕ) (x : ℕ) → begins same (seen ++ x ∷ []) word ≡ true → begins same word (seen ++ x ∷ []) ≡ true → ends_in x word ≡ true
last_is seen [] x h g = absurd (false≢true (sym (nothing_behind seen x) ∙ h))
last_is [] (b ∷ []) x h g = (and_parts (b == x) true g).0
last_is [] (b ∷ y ∷ word) x h g = absurd (false≢true (and_parts (b == x) false g).1)
last_is (z ∷ seen) (b ∷ []) x h g = absurd (false≢true (sym (nothing_behind seen x) ∙ (and_parts (z == b) (begins same (seen ++ x ∷ []) []) h).1))
last_is (z ∷ seen) (b ∷ y ∷ word) x h g =
    last_is seen (y ∷ word) x (and_parts (z == b) (begins same (seen ++ x ∷ []) (y ∷ word)) h).1 (and_parts (b == z) (begins same (y ∷ word) (seen ++ x ∷ [])) g).1

opens_section : (seen : List ℕ) (x : ℕ) → is_all same (seen ++ x ∷ []) (codes "[CDATA[") ≡ true → (x == 91) ≡ true
opens_section seen x h =
    let parts = and_parts (begins same (seen ++ x ∷ []) (codes "[CDATA[")) (begins same (codes "[CDATA[") (seen ++ x ∷ [])) h in
    let last : (91 == x) ≡ true = last_is seen (codes "[CDATA[") x parts.0 parts.1 in
    eq-eqb x 91 (sym (eqb-true 91 x last))

markup_declaration_quiet : (seen : List ℕ) (x : ℕ) → (x == 91) ≡ false → Quiet (c.markup_declaration_open_state seen x)
markup_declaration_quiet seen x h =
    let now = seen ++ (x ∷ []) in
    either (is_all same now (codes "--")) _ _ (λ _. quiet tt)
    (λ _. either (is_all to_ascii_lowercase now (codes "doctype")) _ _ (λ _. quiet tt)
    (λ _. either (is_all same now (codes "[CDATA[")) _ _ (λ e. never (x == 91) (opens_section seen x e) h)
    (λ _. either (c.begins_opening now) _ _ (λ _. quiet tt) (λ _. quiet tt))))

comment_start_quiet : (x : ℕ) → (x == greater_than_sign) ≡ false → Quiet (c.comment_start_state x)
comment_start_quiet x h = search (either, quiet, never) depth 12

comment_start_dash_quiet : (x : ℕ) → (x == greater_than_sign) ≡ false → Quiet (c.comment_start_dash_state x)
comment_start_dash_quiet x h = search (either, quiet, never) depth 12

comment_quiet : (comment : List ℕ) (x : ℕ) → (x == greater_than_sign) ≡ false → Quiet (c.comment_state comment x)
comment_quiet comment x h = search (either, quiet, never) depth 12

comment_less_than_sign_quiet : (comment : List ℕ) (x : ℕ) → (x == greater_than_sign) ≡ false → Quiet (c.comment_less_than_sign_state comment x)
comment_less_than_sign_quiet comment x h = search (either, quiet, never) depth 12

comment_less_than_sign_bang_quiet : (comment : List ℕ) (x : ℕ) → (x == greater_than_sign) ≡ false → Quiet (c.comment_less_than_sign_bang_state comment x)
comment_less_than_sign_bang_quiet comment x h = search (either, quiet, never) depth 12

comment_less_than_sign_bang_dash_quiet : (comment : List ℕ) (x : ℕ) → (x == greater_than_sign) ≡ false → Quiet (c.comment_less_than_sign_bang_dash_state comment x)
comment_less_than_sign_bang_dash_quiet comment x h = search (either, quiet, never) depth 12

comment_less_than_sign_bang_dash_dash_quiet : (comment : List ℕ) (x : ℕ) → (x == greater_than_sign) ≡ false → Quiet (c.comment_less_than_sign_bang_dash_dash_state comment x)
comment_less_than_sign_bang_dash_dash_quiet comment x h = search (either, quiet, never) depth 12

comment_end_dash_quiet : (comment : List ℕ) (x : ℕ) → (x == greater_than_sign) ≡ false → Quiet (c.comment_end_dash_state comment x)
comment_end_dash_quiet comment x h = search (either, quiet, never) depth 12

comment_end_quiet : (comment : List ℕ) (x : ℕ) → (x == greater_than_sign) ≡ false → Quiet (c.comment_end_state comment x)
comment_end_quiet comment x h = search (either, quiet, never) depth 12

comment_end_bang_quiet : (comment : List ℕ) (x : ℕ) → (x == greater_than_sign) ≡ false → Quiet (c.comment_end_bang_state comment x)
comment_end_bang_quiet comment x h = search (either, quiet, never) depth 12

doctype_quiet : (x : ℕ) → (x == greater_than_sign) ≡ false → Quiet (d.doctype_state x)
doctype_quiet x h = search (either, quiet, never) depth 12

before_doctype_name_quiet : (x : ℕ) → (x == greater_than_sign) ≡ false → Quiet (d.before_doctype_name_state x)
before_doctype_name_quiet x h = search (either, quiet, never) depth 12

doctype_name_quiet : (doctype : DoctypeText) (x : ℕ) → (x == greater_than_sign) ≡ false → Quiet (d.doctype_name_state doctype x)
doctype_name_quiet doctype x h = search (either, quiet, never) depth 12

after_doctype_name_quiet : (doctype : DoctypeText) (seen : List ℕ) (x : ℕ) → (x == greater_than_sign) ≡ false → Quiet (d.after_doctype_name_state doctype seen x)
after_doctype_name_quiet doctype seen x h =
    let now = seen ++ (x ∷ []) in
    either ((length seen == 0) && is_blank x) _ _ (λ _. quiet tt)
    (λ _. either ((length seen == 0) && (x == greater_than_sign)) _ _ (λ e. never (x == greater_than_sign) (and_parts (length seen == 0) (x == greater_than_sign) e).1 h)
    (λ _. either (is_all to_ascii_lowercase now (codes "public")) _ _ (λ _. quiet tt)
    (λ _. either (is_all to_ascii_lowercase now (codes "system")) _ _ (λ _. quiet tt)
    (λ _. either (d.begins_keyword now) _ _ (λ _. quiet tt) (λ _. quiet tt)))))

doctype_keyword_quiet : (id : Identifier) (doctype : DoctypeText) (x : ℕ) → (x == greater_than_sign) ≡ false → Quiet (d.after_doctype_keyword_state id doctype x)
doctype_keyword_quiet id doctype x h = search (either, quiet, never) depth 12

before_identifier_quiet : (id : Identifier) (doctype : DoctypeText) (x : ℕ) → (x == greater_than_sign) ≡ false → Quiet (d.before_doctype_identifier_state id doctype x)
before_identifier_quiet id doctype x h = search (either, quiet, never) depth 12

identifier_quiet : (id : Identifier) (quote : Quote) (doctype : DoctypeText) (x : ℕ) → (x == greater_than_sign) ≡ false → Quiet (d.doctype_identifier_state id quote doctype x)
identifier_quiet id quote doctype x h = search (either, quiet, never) depth 12

after_public_quiet : (doctype : DoctypeText) (x : ℕ) → (x == greater_than_sign) ≡ false → Quiet (d.after_doctype_public_identifier_state doctype x)
after_public_quiet doctype x h = search (either, quiet, never) depth 12

between_quiet : (doctype : DoctypeText) (x : ℕ) → (x == greater_than_sign) ≡ false → Quiet (d.between_doctype_identifiers_state doctype x)
between_quiet doctype x h = search (either, quiet, never) depth 12

after_system_quiet : (doctype : DoctypeText) (x : ℕ) → (x == greater_than_sign) ≡ false → Quiet (d.after_doctype_system_identifier_state doctype x)
after_system_quiet doctype x h = search (either, quiet, never) depth 12

bogus_doctype_quiet : (doctype : DoctypeText) (x : ℕ) → (x == greater_than_sign) ≡ false → Quiet (d.bogus_doctype_state doctype x)
bogus_doctype_quiet doctype x h = search (either, quiet, never) depth 12

flush_quiet : (return : Return) (text : List ℕ) → Quiet (flush return text)
flush_quiet ToData text = quiet tt
flush_quiet ToRcdata text = quiet tt
flush_quiet (ToValue value tag) text = quiet tt

flush_again_quiet : (return : Return) (text : List ℕ) → Quiet (flush_again return text)
flush_again_quiet ToData text = quiet tt
flush_again_quiet ToRcdata text = quiet tt
flush_again_quiet (ToValue value tag) text = quiet tt

character_reference_quiet : (return : Return) (x : ℕ) → Quiet (r.character_reference_state return x)
character_reference_quiet return x =
    either (is_alphanumeric x) _ _ (λ _. quiet tt) (λ _. either (x == number_sign) _ _ (λ _. quiet tt) (λ _. flush_again_quiet return (codes "&")))

unnamed_quiet : (return : Return) (text : List ℕ) → Quiet (r.unnamed return text)
unnamed_quiet ToData text = quiet tt
unnamed_quiet ToRcdata text = quiet tt
unnamed_quiet (ToValue value tag) text = quiet tt

named_quiet : (return : Return) (seen : List ℕ) (x : ℕ) (found : Option Longest) → Quiet (r.named return seen x found)
named_quiet return seen x None = unnamed_quiet return (codes "&" ++ seen)
named_quiet return seen x (Some found) =
    either (is_historical return found x) _ _ (λ _. flush_again_quiet return (codes "&" ++ seen)) (λ _. quiet (flush_again_quiet return (found.text ++ found.rest)).outcome)

named_reference_quiet : (table : List Reference) (return : Return) (seen : List ℕ) (x : ℕ) → Quiet (r.named_character_reference_state table return seen x)
named_reference_quiet table return seen x = either (is_beginning table (seen ++ (x ∷ []))) _ _ (λ _. quiet tt) (λ _. named_quiet return seen x (longest table seen))

in_ambiguous_quiet : (return : Return) (x : ℕ) → Quiet (r.in_ambiguous x return)
in_ambiguous_quiet ToData x = quiet tt
in_ambiguous_quiet ToRcdata x = quiet tt
in_ambiguous_quiet (ToValue value tag) x = quiet tt

ambiguous_quiet : (return : Return) (x : ℕ) → Quiet (r.ambiguous_ampersand_state return x)
ambiguous_quiet return x = either (is_alphanumeric x) _ _ (λ _. in_ambiguous_quiet return x) (λ _. quiet tt)

numeric_quiet : (return : Return) (x : ℕ) → Quiet (r.numeric_character_reference_state return x)
numeric_quiet return x = search (either, quiet)

hexadecimal_start_quiet : (return : Return) (buffer : List ℕ) (x : ℕ) → Quiet (r.hexadecimal_start_state return buffer x)
hexadecimal_start_quiet return buffer x = either (is_hex_digit x) _ _ (λ _. quiet tt) (λ _. quiet (flush_again_quiet return (codes "&#" ++ buffer)).outcome)

decimal_start_quiet : (return : Return) (x : ℕ) → Quiet (r.decimal_start_state return x)
decimal_start_quiet return x = either (is_ascii_digit x) _ _ (λ _. quiet tt) (λ _. quiet (flush_again_quiet return (codes "&#")).outcome)

hexadecimal_quiet : (return : Return) (code x : ℕ) → Quiet (r.hexadecimal_state return code x)
hexadecimal_quiet return code x =
    either (is_hex_digit x) _ _ (λ _. quiet tt) (λ _. either (x == semicolon) _ _ (λ _. quiet (flush_quiet return (r.code_point code)).outcome) (λ _. quiet tt))

decimal_quiet : (return : Return) (code x : ℕ) → Quiet (r.decimal_state return code x)
decimal_quiet return code x =
    either (is_ascii_digit x) _ _ (λ _. quiet tt) (λ _. either (x == semicolon) _ _ (λ _. quiet (flush_quiet return (r.code_point code)).outcome) (λ _. quiet tt))

turn_quiet : (table : List Reference) (last : List ℕ) (state : State) (x : ℕ) → (x == greater_than_sign) ≡ false → (hands_null state ≡ true → (x == null) ≡ false)
    → (asks_in state ≡ true → (x == 91) ≡ false) → Quiet (turn table last state x)
turn_quiet table last (s.Text kind) x h null_apart bracket_apart = text_quiet kind x null_apart
turn_quiet table last s.TagOpen x h null_apart bracket_apart = tag_open_quiet x
turn_quiet table last s.EndTagOpen x h null_apart bracket_apart = end_tag_open_quiet x
turn_quiet table last (s.TagName tag) x h null_apart bracket_apart = tag_name_quiet tag x h
turn_quiet table last (s.RawLessThanSign kind) x h null_apart bracket_apart = raw_less_than_quiet kind x
turn_quiet table last (s.RawEndTagOpen kind) x h null_apart bracket_apart = raw_end_tag_open_quiet kind x
turn_quiet table last (s.RawEndTagName kind buffer) x h null_apart bracket_apart = raw_end_tag_name_quiet last kind buffer x h
turn_quiet table last s.ScriptDataEscapeStart x h null_apart bracket_apart = escape_start_quiet x
turn_quiet table last s.ScriptDataEscapeStartDash x h null_apart bracket_apart = escape_start_dash_quiet x
turn_quiet table last (s.ScriptDataEscaped depth) x h null_apart bracket_apart = escaped_quiet depth x
turn_quiet table last (s.ScriptDataEscapedDash depth) x h null_apart bracket_apart = escaped_dash_quiet depth x
turn_quiet table last (s.ScriptDataEscapedDashDash depth) x h null_apart bracket_apart = escaped_dash_dash_quiet depth x
turn_quiet table last (s.ScriptDataDoubleEscapeStart buffer) x h null_apart bracket_apart = double_escape_start_quiet buffer x
turn_quiet table last s.ScriptDataDoubleEscapedLessThanSign x h null_apart bracket_apart = double_less_than_quiet x
turn_quiet table last (s.ScriptDataDoubleEscapeEnd buffer) x h null_apart bracket_apart = double_escape_end_quiet buffer x
turn_quiet table last (s.BeforeAttributeName tag) x h null_apart bracket_apart = before_attribute_name_quiet tag x h
turn_quiet table last (s.AttributeName tag) x h null_apart bracket_apart = attribute_name_quiet tag x h
turn_quiet table last (s.AfterAttributeName tag) x h null_apart bracket_apart = after_attribute_name_quiet tag x h
turn_quiet table last (s.BeforeAttributeValue tag) x h null_apart bracket_apart = before_attribute_value_quiet tag x h
turn_quiet table last (s.AttributeValue value tag) x h null_apart bracket_apart = attribute_value_quiet value tag x h
turn_quiet table last (s.AfterAttributeValueQuoted tag) x h null_apart bracket_apart = after_attribute_value_quiet tag x h
turn_quiet table last (s.SelfClosingStartTag tag) x h null_apart bracket_apart = self_closing_quiet tag x h
turn_quiet table last (s.BogusComment comment) x h null_apart bracket_apart = bogus_comment_quiet comment x h
turn_quiet table last (s.MarkupDeclarationOpen seen) x h null_apart bracket_apart = markup_declaration_quiet seen x (bracket_apart refl)
turn_quiet table last s.CommentStart x h null_apart bracket_apart = comment_start_quiet x h
turn_quiet table last s.CommentStartDash x h null_apart bracket_apart = comment_start_dash_quiet x h
turn_quiet table last (s.Comment comment) x h null_apart bracket_apart = comment_quiet comment x h
turn_quiet table last (s.CommentLessThanSign comment) x h null_apart bracket_apart = comment_less_than_sign_quiet comment x h
turn_quiet table last (s.CommentLessThanSignBang comment) x h null_apart bracket_apart = comment_less_than_sign_bang_quiet comment x h
turn_quiet table last (s.CommentLessThanSignBangDash comment) x h null_apart bracket_apart = comment_less_than_sign_bang_dash_quiet comment x h
turn_quiet table last (s.CommentLessThanSignBangDashDash comment) x h null_apart bracket_apart = comment_less_than_sign_bang_dash_dash_quiet comment x h
turn_quiet table last (s.CommentEndDash comment) x h null_apart bracket_apart = comment_end_dash_quiet comment x h
turn_quiet table last (s.CommentEnd comment) x h null_apart bracket_apart = comment_end_quiet comment x h
turn_quiet table last (s.CommentEndBang comment) x h null_apart bracket_apart = comment_end_bang_quiet comment x h
turn_quiet table last s.BeginDoctype x h null_apart bracket_apart = doctype_quiet x h
turn_quiet table last s.BeforeDoctypeName x h null_apart bracket_apart = before_doctype_name_quiet x h
turn_quiet table last (s.DoctypeName doctype) x h null_apart bracket_apart = doctype_name_quiet doctype x h
turn_quiet table last (s.AfterDoctypeName doctype seen) x h null_apart bracket_apart = after_doctype_name_quiet doctype seen x h
turn_quiet table last (s.AfterDoctypeKeyword id doctype) x h null_apart bracket_apart = doctype_keyword_quiet id doctype x h
turn_quiet table last (s.BeforeDoctypeIdentifier id doctype) x h null_apart bracket_apart = before_identifier_quiet id doctype x h
turn_quiet table last (s.DoctypeIdentifier id quote doctype) x h null_apart bracket_apart = identifier_quiet id quote doctype x h
turn_quiet table last (s.AfterDoctypePublicIdentifier doctype) x h null_apart bracket_apart = after_public_quiet doctype x h
turn_quiet table last (s.BetweenDoctypeIdentifiers doctype) x h null_apart bracket_apart = between_quiet doctype x h
turn_quiet table last (s.AfterDoctypeSystemIdentifier doctype) x h null_apart bracket_apart = after_system_quiet doctype x h
turn_quiet table last (s.BogusDoctype doctype) x h null_apart bracket_apart = bogus_doctype_quiet doctype x h
turn_quiet table last s.CdataSectionBracket x h null_apart bracket_apart = cdata_bracket_quiet x
turn_quiet table last s.CdataSectionEnd x h null_apart bracket_apart = cdata_end_quiet x
turn_quiet table last (s.CharacterReference return) x h null_apart bracket_apart = character_reference_quiet return x
turn_quiet table last (s.NamedCharacterReference return seen) x h null_apart bracket_apart = named_reference_quiet table return seen x
turn_quiet table last (s.AmbiguousAmpersand return) x h null_apart bracket_apart = ambiguous_quiet return x
turn_quiet table last (s.NumericCharacterReference return) x h null_apart bracket_apart = numeric_quiet return x
turn_quiet table last (s.HexadecimalStart return buffer) x h null_apart bracket_apart = hexadecimal_start_quiet return buffer x
turn_quiet table last (s.DecimalStart return) x h null_apart bracket_apart = decimal_start_quiet return x
turn_quiet table last (s.Hexadecimal return code) x h null_apart bracket_apart = hexadecimal_quiet return code x
turn_quiet table last (s.Decimal return code) x h null_apart bracket_apart = decimal_quiet return code x
turn_quiet table last (s.NumericCharacterReferenceEnd return code) x h null_apart bracket_apart = quiet (flush_again_quiet return (r.code_point code)).outcome

normal_apart : (b : Bool) (x other : ℕ) → (10 == other) ≡ false → (x ≡ other → ⊥) → ((if b then 10 else x) == other) ≡ false
normal_apart true x other h g = h
normal_apart false x other h g = ne_eqb x other g

-- at each other byte
pub quiet_byte : (m : MachineText) (x : ℕ) → (x ≡ 62 → ⊥) → (x ≡ 91 → ⊥) → (x ≡ 0 → ⊥) → IsQuiet (outcome references (place_of m) x)
quiet_byte m x greater bracket zero =
    (turn_quiet references m.last (state_of m.at m.parts) (normal x) (normal_apart (x == 13) x 62 refl greater) (λ _. normal_apart (x == 13) x 0 refl zero)
    (λ _. normal_apart (x == 13) x 91 refl bracket)).outcome

pub quiet_bracket : (m : MachineText) (x : ℕ) (asks : Bool) → x ≡ 91 → asks ≡ asks_in (state_of m.at m.parts) → asks ≡ false → IsQuiet (outcome references (place_of m) x)
quiet_bracket m x asks is same h =
    subst (λ y. IsQuiet (outcome references (place_of m) y)) (sym is)
    (turn_quiet references m.last (state_of m.at m.parts) 91 refl (λ _. refl) (λ g. absurd (true≢false (sym g ∙ (sym same ∙ h))))).outcome

pub quiet_null : (m : MachineText) (x : ℕ) (hands : Bool) → x ≡ 0 → hands ≡ hands_null (state_of m.at m.parts) → hands ≡ false → IsQuiet (outcome references (place_of m) x)
quiet_null m x hands is same h =
    subst (λ y. IsQuiet (outcome references (place_of m) y)) (sym is)
    (turn_quiet references m.last (state_of m.at m.parts) 0 refl (λ g. absurd (true≢false (sym g ∙ (sym same ∙ h)))) (λ _. refl)).outcome
