-- Properties of each row: a byte that is reconsumed has a smaller rank in the next state, and a token that is emitted is
-- proper.
use Rattle.std.proofs.Common.{◌≡◌, ℕ, ◌+◌, ◌<◌, refl, true, false, List, [], ◌∷◌, ◌++◌, Bool, arith, if◌then◌else◌, ◌==◌, ◌||◌, ◌&&◌, true≢false, codes}
use Rattle.std.proofs.lemmas.Bool.{false≢true}
use Rattle.std.specs.Char.{is_ascii_alphabetic, is_ascii_digit}
use Rattle.std.specs.Prelude.{Option, Some, None, not}
use Rattle.h5_token.specs.TokenText.{DoctypeText}
use Rattle.h5_tokenizer_input.specs.Proper.{IsProper}
use Rattle.h5_tokenizer_spec.specs.declared.kinds.TextKind.{TextKind}
use Rattle.h5_tokenizer_spec.specs.declared.kinds.TextKind.TheVariants.{Data, Rcdata, Rawtext, ScriptData, Plaintext, CdataSection}
use Rattle.h5_tokenizer_spec.specs.declared.kinds.RawTextKind.{RawTextKind}
use Rattle.h5_tokenizer_spec.specs.declared.kinds.RawTextKind.TheVariants as raw
use Rattle.h5_tokenizer_spec.specs.declared.kinds.Escape.{Escape}
use Rattle.h5_tokenizer_spec.specs.declared.kinds.Escape.TheVariants.{Escaped, DoubleEscaped}
use Rattle.h5_tokenizer_spec.specs.declared.kinds.Identifier.{Identifier}
use Rattle.h5_tokenizer_spec.specs.declared.kinds.Quote.{Quote}
use Rattle.h5_tokenizer_spec.specs.Signs.{is_blank, is_name_end, is_alphanumeric, is_hex_digit, solidus, greater_than_sign, equals_sign, null, number_sign, semicolon}
use Rattle.h5_tokenizer_spec.specs.Construction.{Tag}
use Rattle.h5_tokenizer_spec.specs.States as s
use Rattle.h5_tokenizer_spec.specs.States.{State, Return, ToData, ToRcdata, ToValue, Value, Quoted, Unquoted, returned, text_of}
use Rattle.h5_tokenizer_spec.specs.Turn.{Outcome, Consumed, Reconsumed, Emitted, Asks, Turn, flush, flush_again}
use Rattle.h5_tokenizer_spec.specs.Texts as t
use Rattle.h5_tokenizer_spec.specs.References.{Reference, Longest, longest, is_beginning, is_historical, named, unnamed, in_ambiguous, code_point}
use Rattle.h5_tokenizer_spec.specs.Machine.{turn}
use Rattle.h5_tokenizer_spec.specs.Rank.{rank, unless}

abbrev pub FitsDeed : ℕ → ℕ → Outcome → Type 0
FitsDeed r x (Consumed text state) = Unit {0}
FitsDeed r x (Reconsumed text state) = rank state x < r
FitsDeed r x (Emitted token state) = IsProper token
FitsDeed r x (Asks there error elsewhere) = Unit {0}

-- a row at a byte in a state of this rank
pub record Fits (r x : ℕ) (t : Turn) : Type 0 where
  pub outcome : FitsDeed r x t.outcome

fits : {r x : ℕ} {t : Turn} → FitsDeed r x t.outcome → Fits r x t
fits h = record { outcome = h }

either : {r x : ℕ} (b : Bool) (t u : Turn) → (b ≡ true → Fits r x t) → (b ≡ false → Fits r x u) → Fits r x (if b then t else u)
either true t u f g = f refl
either false t u f g = g refl

zero_one : 0 < 1
zero_one = omega arith

zero_two : 0 < 2
zero_two = omega arith

one_two : 1 < 2
one_two = omega arith

-- a test that matters for a rank
below : (b : Bool) → b ≡ true → unless b < 1
below true h = omega arith
below false h = absurd (false≢true h)

above : (b : Bool) → b ≡ false → 0 < unless b
above false h = omega arith
above true h = absurd (true≢false h)

leaves_name : (b : Bool) → b ≡ true → unless b < unless (not b)
leaves_name true h = omega arith
leaves_name false h = absurd (false≢true h)

begins_name : (b : Bool) → b ≡ false → unless (not b) < unless b
begins_name false h = omega arith
begins_name true h = absurd (true≢false h)

begins_first : (b : Bool) → b ≡ false → unless (not b) < 1
begins_first false h = omega arith
begins_first true h = absurd (true≢false h)

below_two : (b : Bool) → b ≡ true → 1 + unless b < 2
below_two true h = omega arith
below_two false h = absurd (false≢true h)

digit_below : (b : Bool) → b ≡ true → (if b then 0 else 2) < 1
digit_below true h = omega arith
digit_below false h = absurd (false≢true h)

digit_above : (b : Bool) → b ≡ false → 1 < (if b then 0 else 2)
digit_above false h = omega arith
digit_above true h = absurd (true≢false h)

ends_either : (a b : Bool) → b ≡ true → (a || b) ≡ true
ends_either true b h = refl
ends_either false b h = h

ends_neither : (a b : Bool) → a ≡ false → b ≡ false → (a || b) ≡ false
ends_neither true b h g = h
ends_neither false b h g = g

text_fits : (kind : TextKind) (x : ℕ) → Fits 0 x (t.text_state kind x)
text_fits Data x = search (either, fits)
text_fits Rcdata x = search (either, fits)
text_fits Rawtext x = search (either, fits)
text_fits ScriptData x = search (either, fits)
text_fits Plaintext x = search (either, fits)
text_fits CdataSection x = search (either, fits)

flush_fits : {r x : ℕ} (return : Return) (text : List ℕ) → Fits r x (flush return text)
flush_fits ToData text = fits tt
flush_fits ToRcdata text = fits tt
flush_fits (ToValue value tag) text = fits tt

flush_again_fits : {r x : ℕ} (return : Return) (text : List ℕ) → 0 < r → Fits r x (flush_again return text)
flush_again_fits ToData text h = fits h
flush_again_fits ToRcdata text h = fits h
flush_again_fits (ToValue value tag) text h = fits h

tag_open_fits : (table : List Reference) (last : List ℕ) (x : ℕ) → Fits 1 x (turn table last s.TagOpen x)
tag_open_fits table last x = search (either, fits, zero_one) depth 12

end_tag_open_fits : (table : List Reference) (last : List ℕ) (x : ℕ) → Fits 1 x (turn table last s.EndTagOpen x)
end_tag_open_fits table last x = search (either, fits, zero_one) depth 12

tag_name_fits : (table : List Reference) (last : List ℕ) (tag : Tag) (x : ℕ) → Fits 0 x (turn table last (s.TagName tag) x)
tag_name_fits table last tag x = search (either, fits) depth 12

escape_start_fits : (table : List Reference) (last : List ℕ) (x : ℕ) → Fits 1 x (turn table last s.ScriptDataEscapeStart x)
escape_start_fits table last x = search (either, fits, zero_one) depth 12

escape_start_dash_fits : (table : List Reference) (last : List ℕ) (x : ℕ) → Fits 1 x (turn table last s.ScriptDataEscapeStartDash x)
escape_start_dash_fits table last x = search (either, fits, zero_one) depth 12

double_less_than_fits : (table : List Reference) (last : List ℕ) (x : ℕ) → Fits 1 x (turn table last s.ScriptDataDoubleEscapedLessThanSign x)
double_less_than_fits table last x = search (either, fits, zero_one) depth 12

double_escape_end_fits : (table : List Reference) (last : List ℕ) (buffer : List ℕ) (x : ℕ) → Fits 1 x (turn table last (s.ScriptDataDoubleEscapeEnd buffer) x)
double_escape_end_fits table last buffer x = search (either, fits, zero_one) depth 12

before_value_fits : (table : List Reference) (last : List ℕ) (tag : Tag) (x : ℕ) → Fits 1 x (turn table last (s.BeforeAttributeValue tag) x)
before_value_fits table last tag x = search (either, fits, zero_one) depth 12

after_quoted_fits : (table : List Reference) (last : List ℕ) (tag : Tag) (x : ℕ) → Fits 2 x (turn table last (s.AfterAttributeValueQuoted tag) x)
after_quoted_fits table last tag x = search (either, fits, one_two) depth 12

self_closing_fits : (table : List Reference) (last : List ℕ) (tag : Tag) (x : ℕ) → Fits 2 x (turn table last (s.SelfClosingStartTag tag) x)
self_closing_fits table last tag x = search (either, fits, one_two) depth 12

bogus_comment_fits : (table : List Reference) (last : List ℕ) (comment : List ℕ) (x : ℕ) → Fits 0 x (turn table last (s.BogusComment comment) x)
bogus_comment_fits table last comment x = search (either, fits) depth 12

markup_declaration_fits : (table : List Reference) (last : List ℕ) (seen : List ℕ) (x : ℕ) → Fits 1 x (turn table last (s.MarkupDeclarationOpen seen) x)
markup_declaration_fits table last seen x = search (either, fits, zero_one) depth 12

comment_start_fits : (table : List Reference) (last : List ℕ) (x : ℕ) → Fits 1 x (turn table last s.CommentStart x)
comment_start_fits table last x = search (either, fits, zero_one) depth 12

comment_start_dash_fits : (table : List Reference) (last : List ℕ) (x : ℕ) → Fits 1 x (turn table last s.CommentStartDash x)
comment_start_dash_fits table last x = search (either, fits, zero_one) depth 12

comment_fits : (table : List Reference) (last : List ℕ) (comment : List ℕ) (x : ℕ) → Fits 0 x (turn table last (s.Comment comment) x)
comment_fits table last comment x = search (either, fits) depth 12

comment_less_than_fits : (table : List Reference) (last : List ℕ) (comment : List ℕ) (x : ℕ) → Fits 1 x (turn table last (s.CommentLessThanSign comment) x)
comment_less_than_fits table last comment x = search (either, fits, zero_one) depth 12

comment_bang_fits : (table : List Reference) (last : List ℕ) (comment : List ℕ) (x : ℕ) → Fits 1 x (turn table last (s.CommentLessThanSignBang comment) x)
comment_bang_fits table last comment x = search (either, fits, zero_one) depth 12

comment_bang_dash_fits : (table : List Reference) (last : List ℕ) (comment : List ℕ) (x : ℕ) → Fits 2 x (turn table last (s.CommentLessThanSignBangDash comment) x)
comment_bang_dash_fits table last comment x = search (either, fits, one_two) depth 12

comment_bang_dash_dash_fits : (table : List Reference) (last : List ℕ) (comment : List ℕ) (x : ℕ) → Fits 2 x (turn table last (s.CommentLessThanSignBangDashDash comment) x)
comment_bang_dash_dash_fits table last comment x = search (either, fits, one_two) depth 12

comment_end_dash_fits : (table : List Reference) (last : List ℕ) (comment : List ℕ) (x : ℕ) → Fits 1 x (turn table last (s.CommentEndDash comment) x)
comment_end_dash_fits table last comment x = search (either, fits, zero_one) depth 12

comment_end_fits : (table : List Reference) (last : List ℕ) (comment : List ℕ) (x : ℕ) → Fits 1 x (turn table last (s.CommentEnd comment) x)
comment_end_fits table last comment x = search (either, fits, zero_one) depth 12

comment_end_bang_fits : (table : List Reference) (last : List ℕ) (comment : List ℕ) (x : ℕ) → Fits 1 x (turn table last (s.CommentEndBang comment) x)
comment_end_bang_fits table last comment x = search (either, fits, zero_one) depth 12

doctype_fits : (table : List Reference) (last : List ℕ) (x : ℕ) → Fits 1 x (turn table last s.BeginDoctype x)
doctype_fits table last x = search (either, fits, zero_one) depth 12

before_doctype_name_fits : (table : List Reference) (last : List ℕ) (x : ℕ) → Fits 0 x (turn table last s.BeforeDoctypeName x)
before_doctype_name_fits table last x = search (either, fits) depth 12

doctype_name_fits : (table : List Reference) (last : List ℕ) (doctype : DoctypeText) (x : ℕ) → Fits 0 x (turn table last (s.DoctypeName doctype) x)
doctype_name_fits table last doctype x = search (either, fits) depth 12

after_doctype_name_fits : (table : List Reference) (last : List ℕ) (doctype : DoctypeText) (seen : List ℕ) (x : ℕ) → Fits 1 x (turn table last (s.AfterDoctypeName doctype seen) x)
after_doctype_name_fits table last doctype seen x = search (either, fits, zero_one) depth 12

doctype_keyword_fits : (table : List Reference) (last : List ℕ) (id : Identifier) (doctype : DoctypeText) (x : ℕ) → Fits 1 x (turn table last (s.AfterDoctypeKeyword id doctype) x)
doctype_keyword_fits table last id doctype x = search (either, fits, zero_one) depth 12

before_identifier_fits : (table : List Reference) (last : List ℕ) (id : Identifier) (doctype : DoctypeText) (x : ℕ) → Fits 1 x (turn table last (s.BeforeDoctypeIdentifier id doctype) x)
before_identifier_fits table last id doctype x = search (either, fits, zero_one) depth 12

identifier_fits : (table : List Reference) (last : List ℕ) (id : Identifier) (quote : Quote) (doctype : DoctypeText) (x : ℕ)
    → Fits 1 x (turn table last (s.DoctypeIdentifier id quote doctype) x)
identifier_fits table last id quote doctype x = search (either, fits) depth 12

after_public_fits : (table : List Reference) (last : List ℕ) (doctype : DoctypeText) (x : ℕ) → Fits 1 x (turn table last (s.AfterDoctypePublicIdentifier doctype) x)
after_public_fits table last doctype x = search (either, fits, zero_one) depth 12

between_fits : (table : List Reference) (last : List ℕ) (doctype : DoctypeText) (x : ℕ) → Fits 1 x (turn table last (s.BetweenDoctypeIdentifiers doctype) x)
between_fits table last doctype x = search (either, fits, zero_one) depth 12

after_system_fits : (table : List Reference) (last : List ℕ) (doctype : DoctypeText) (x : ℕ) → Fits 1 x (turn table last (s.AfterDoctypeSystemIdentifier doctype) x)
after_system_fits table last doctype x = search (either, fits, zero_one) depth 12

bogus_doctype_fits : (table : List Reference) (last : List ℕ) (doctype : DoctypeText) (x : ℕ) → Fits 0 x (turn table last (s.BogusDoctype doctype) x)
bogus_doctype_fits table last doctype x = search (either, fits) depth 12

cdata_bracket_fits : (table : List Reference) (last : List ℕ) (x : ℕ) → Fits 1 x (turn table last s.CdataSectionBracket x)
cdata_bracket_fits table last x = search (either, fits, zero_one) depth 12

cdata_end_fits : (table : List Reference) (last : List ℕ) (x : ℕ) → Fits 1 x (turn table last s.CdataSectionEnd x)
cdata_end_fits table last x = search (either, fits, zero_one) depth 12

raw_text_first : (kind : RawTextKind) (x r : ℕ) → 0 < r → rank (text_of kind) x < r
raw_text_first raw.Rcdata x r h = h
raw_text_first raw.Rawtext x r h = h
raw_text_first raw.ScriptData x r h = h
raw_text_first raw.EscapedScriptData x r h = h

raw_less_than_fits : (table : List Reference) (last : List ℕ) (kind : RawTextKind) (x : ℕ) → Fits 1 x (turn table last (s.RawLessThanSign kind) x)
raw_less_than_fits table last raw.Rcdata x = search (either, fits, zero_one)
raw_less_than_fits table last raw.Rawtext x = search (either, fits, zero_one)
raw_less_than_fits table last raw.ScriptData x = search (either, fits, zero_one)
raw_less_than_fits table last raw.EscapedScriptData x =
    either (x == solidus) _ _ (λ _. fits tt) (λ _. either (is_ascii_alphabetic x) _ _ (λ b. fits (below (is_ascii_alphabetic x) b)) (λ _. fits zero_one))

raw_end_tag_open_fits : (table : List Reference) (last : List ℕ) (kind : RawTextKind) (x : ℕ) → Fits 1 x (turn table last (s.RawEndTagOpen kind) x)
raw_end_tag_open_fits table last kind x =
    either (is_ascii_alphabetic x) _ _ (λ b. fits (below (is_ascii_alphabetic x) b)) (λ _. fits (raw_text_first kind x 1 zero_one))

raw_end_tag_name_fits : (table : List Reference) (last : List ℕ) (kind : RawTextKind) (buffer : List ℕ) (x : ℕ)
    → Fits (unless (is_ascii_alphabetic x)) x (turn table last (s.RawEndTagName kind buffer) x)
raw_end_tag_name_fits table last kind buffer x =
    let appropriate = t.is_appropriate last buffer in
    either (appropriate && is_blank x) _ _ (λ _. fits tt)
    (λ _. either (appropriate && x == solidus) _ _ (λ _. fits tt)
    (λ _. either (appropriate && x == greater_than_sign) _ _ (λ _. fits tt)
    (λ _. either (is_ascii_alphabetic x) _ _ (λ _. fits tt) (λ b. fits (raw_text_first kind x (unless (is_ascii_alphabetic x)) (above (is_ascii_alphabetic x) b))))))

escaped_fits : (table : List Reference) (last : List ℕ) (depth : Escape) (x : ℕ) → Fits 0 x (turn table last (s.ScriptDataEscaped depth) x)
escaped_fits table last Escaped x = search (either, fits)
escaped_fits table last DoubleEscaped x = search (either, fits)

escaped_dash_fits : (table : List Reference) (last : List ℕ) (depth : Escape) (x : ℕ) → Fits 0 x (turn table last (s.ScriptDataEscapedDash depth) x)
escaped_dash_fits table last Escaped x = search (either, fits)
escaped_dash_fits table last DoubleEscaped x = search (either, fits)

escaped_dash_dash_fits : (table : List Reference) (last : List ℕ) (depth : Escape) (x : ℕ) → Fits 0 x (turn table last (s.ScriptDataEscapedDashDash depth) x)
escaped_dash_dash_fits table last Escaped x = search (either, fits) depth 12
escaped_dash_dash_fits table last DoubleEscaped x = search (either, fits) depth 12

double_escape_start_fits : (table : List Reference) (last : List ℕ) (buffer : List ℕ) (x : ℕ)
    → Fits (unless (is_ascii_alphabetic x)) x (turn table last (s.ScriptDataDoubleEscapeStart buffer) x)
double_escape_start_fits table last buffer x =
    either (is_name_end x) _ _ (λ _. fits tt)
    (λ _. either (is_ascii_alphabetic x) _ _ (λ _. fits tt) (λ b. fits (above (is_ascii_alphabetic x) b)))

before_attribute_name_fits : (table : List Reference) (last : List ℕ) (tag : Tag) (x : ℕ) → Fits 1 x (turn table last (s.BeforeAttributeName tag) x)
before_attribute_name_fits table last tag x =
    either (is_blank x) _ _ (λ _. fits tt)
    (λ b. either (x == solidus || x == greater_than_sign) _ _ (λ c. fits (below (is_name_end x) (ends_either (is_blank x) _ c)))
    (λ c. either (x == equals_sign) _ _ (λ _. fits tt) (λ _. fits (begins_first (is_name_end x) (ends_neither (is_blank x) _ b c)))))

attribute_name_fits : (table : List Reference) (last : List ℕ) (tag : Tag) (x : ℕ) → Fits (unless (not (is_name_end x))) x (turn table last (s.AttributeName tag) x)
attribute_name_fits table last tag x =
    either (is_name_end x) _ _ (λ b. fits (leaves_name (is_name_end x) b))
    (λ _. either (x == equals_sign) _ _ (λ _. fits tt) (λ _. either (x == null) _ _ (λ _. fits tt) (λ _. fits tt)))

after_attribute_name_fits : (table : List Reference) (last : List ℕ) (tag : Tag) (x : ℕ) → Fits (unless (is_name_end x)) x (turn table last (s.AfterAttributeName tag) x)
after_attribute_name_fits table last tag x =
    either (is_blank x) _ _ (λ _. fits tt)
    (λ b. either (x == solidus) _ _ (λ _. fits tt)
    (λ c. either (x == equals_sign) _ _ (λ _. fits tt)
    (λ _. either (x == greater_than_sign) _ _ (λ _. fits tt)
    (λ d. fits (begins_name (is_name_end x) (ends_neither (is_blank x) _ b (ends_neither (x == solidus) _ c d)))))))

attribute_value_fits : (table : List Reference) (last : List ℕ) (value : Value) (tag : Tag) (x : ℕ) → Fits 0 x (turn table last (s.AttributeValue value tag) x)
attribute_value_fits table last (Quoted quote) tag x = search (either, fits) depth 12
attribute_value_fits table last Unquoted tag x = search (either, fits) depth 12

character_reference_fits : (table : List Reference) (last : List ℕ) (return : Return) (x : ℕ) → Fits 2 x (turn table last (s.CharacterReference return) x)
character_reference_fits table last return x =
    either (is_alphanumeric x) _ _ (λ b. fits (below_two (is_alphanumeric x) b))
    (λ _. either (x == number_sign) _ _ (λ _. fits tt) (λ _. flush_again_fits return (codes "&") zero_two))

unnamed_fits : (return : Return) (text : List ℕ) (x : ℕ) → Fits (1 + unless (is_alphanumeric x)) x (unnamed return text)
unnamed_fits ToData text x = fits (omega arith)
unnamed_fits ToRcdata text x = fits (omega arith)
unnamed_fits (ToValue value tag) text x = fits (omega arith)

named_fits : (return : Return) (seen : List ℕ) (x : ℕ) (found : Option Longest) → Fits (1 + unless (is_alphanumeric x)) x (named return seen x found)
named_fits return seen x None = unnamed_fits return (codes "&" ++ seen) x
named_fits return seen x (Some found) =
    either (is_historical return found x) _ _ (λ _. flush_again_fits return (codes "&" ++ seen) (omega arith))
    (λ _. fits (flush_again_fits return (found.text ++ found.rest) (omega arith)).outcome)

named_reference_fits : (table : List Reference) (last : List ℕ) (return : Return) (seen : List ℕ) (x : ℕ)
    → Fits (1 + unless (is_alphanumeric x)) x (turn table last (s.NamedCharacterReference return seen) x)
named_reference_fits table last return seen x =
    either (is_beginning table (seen ++ (x ∷ []))) _ _ (λ _. fits tt) (λ _. named_fits return seen x (longest table seen))

in_ambiguous_fits : (return : Return) (r x : ℕ) → Fits r x (in_ambiguous x return)
in_ambiguous_fits ToData r x = fits tt
in_ambiguous_fits ToRcdata r x = fits tt
in_ambiguous_fits (ToValue value tag) r x = fits tt

returned_first : (return : Return) (x r : ℕ) → 0 < r → rank (returned return) x < r
returned_first ToData x r h = h
returned_first ToRcdata x r h = h
returned_first (ToValue value tag) x r h = h

ambiguous_fits : (table : List Reference) (last : List ℕ) (return : Return) (x : ℕ) → Fits (unless (is_alphanumeric x)) x (turn table last (s.AmbiguousAmpersand return) x)
ambiguous_fits table last return x =
    either (is_alphanumeric x) _ _ (λ _. in_ambiguous_fits return (unless (is_alphanumeric x)) x)
    (λ b. fits (returned_first return x (unless (is_alphanumeric x)) (above (is_alphanumeric x) b)))

numeric_fits : (table : List Reference) (last : List ℕ) (return : Return) (x : ℕ) → Fits 2 x (turn table last (s.NumericCharacterReference return) x)
numeric_fits table last return x = search (either, fits, one_two)

hexadecimal_start_fits : (table : List Reference) (last : List ℕ) (return : Return) (buffer : List ℕ) (x : ℕ) → Fits 1 x (turn table last (s.HexadecimalStart return buffer) x)
hexadecimal_start_fits table last return buffer x =
    either (is_hex_digit x) _ _ (λ b. fits (digit_below (is_hex_digit x) b)) (λ _. fits (flush_again_fits return (codes "&#" ++ buffer) zero_one).outcome)

decimal_start_fits : (table : List Reference) (last : List ℕ) (return : Return) (x : ℕ) → Fits 1 x (turn table last (s.DecimalStart return) x)
decimal_start_fits table last return x =
    either (is_ascii_digit x) _ _ (λ b. fits (digit_below (is_ascii_digit x) b)) (λ _. fits (flush_again_fits return (codes "&#") zero_one).outcome)

hexadecimal_fits : (table : List Reference) (last : List ℕ) (return : Return) (code x : ℕ) → Fits (if is_hex_digit x then 0 else 2) x (turn table last (s.Hexadecimal return code) x)
hexadecimal_fits table last return code x =
    either (is_hex_digit x) _ _ (λ _. fits tt)
    (λ b. either (x == semicolon) _ _ (λ _. fits (flush_fits return (code_point code)).outcome) (λ _. fits (digit_above (is_hex_digit x) b)))

decimal_fits : (table : List Reference) (last : List ℕ) (return : Return) (code x : ℕ) → Fits (if is_ascii_digit x then 0 else 2) x (turn table last (s.Decimal return code) x)
decimal_fits table last return code x =
    either (is_ascii_digit x) _ _ (λ _. fits tt)
    (λ b. either (x == semicolon) _ _ (λ _. fits (flush_fits return (code_point code)).outcome) (λ _. fits (digit_above (is_ascii_digit x) b)))

numeric_end_fits : (table : List Reference) (last : List ℕ) (return : Return) (code x : ℕ) → Fits 1 x (turn table last (s.NumericCharacterReferenceEnd return code) x)
numeric_end_fits table last return code x = fits (flush_again_fits return (code_point code) zero_one).outcome

-- each row
pub turn_fits : (table : List Reference) (last : List ℕ) (state : State) (x : ℕ) → Fits (rank state x) x (turn table last state x)
turn_fits table last (s.Text kind) x = text_fits kind x
turn_fits table last s.TagOpen x = tag_open_fits table last x
turn_fits table last s.EndTagOpen x = end_tag_open_fits table last x
turn_fits table last (s.TagName tag) x = tag_name_fits table last tag x
turn_fits table last (s.RawLessThanSign kind) x = raw_less_than_fits table last kind x
turn_fits table last (s.RawEndTagOpen kind) x = raw_end_tag_open_fits table last kind x
turn_fits table last (s.RawEndTagName kind buffer) x = raw_end_tag_name_fits table last kind buffer x
turn_fits table last s.ScriptDataEscapeStart x = escape_start_fits table last x
turn_fits table last s.ScriptDataEscapeStartDash x = escape_start_dash_fits table last x
turn_fits table last (s.ScriptDataEscaped depth) x = escaped_fits table last depth x
turn_fits table last (s.ScriptDataEscapedDash depth) x = escaped_dash_fits table last depth x
turn_fits table last (s.ScriptDataEscapedDashDash depth) x = escaped_dash_dash_fits table last depth x
turn_fits table last (s.ScriptDataDoubleEscapeStart buffer) x = double_escape_start_fits table last buffer x
turn_fits table last s.ScriptDataDoubleEscapedLessThanSign x = double_less_than_fits table last x
turn_fits table last (s.ScriptDataDoubleEscapeEnd buffer) x = double_escape_end_fits table last buffer x
turn_fits table last (s.BeforeAttributeName tag) x = before_attribute_name_fits table last tag x
turn_fits table last (s.AttributeName tag) x = attribute_name_fits table last tag x
turn_fits table last (s.AfterAttributeName tag) x = after_attribute_name_fits table last tag x
turn_fits table last (s.BeforeAttributeValue tag) x = before_value_fits table last tag x
turn_fits table last (s.AttributeValue value tag) x = attribute_value_fits table last value tag x
turn_fits table last (s.AfterAttributeValueQuoted tag) x = after_quoted_fits table last tag x
turn_fits table last (s.SelfClosingStartTag tag) x = self_closing_fits table last tag x
turn_fits table last (s.BogusComment comment) x = bogus_comment_fits table last comment x
turn_fits table last (s.MarkupDeclarationOpen seen) x = markup_declaration_fits table last seen x
turn_fits table last s.CommentStart x = comment_start_fits table last x
turn_fits table last s.CommentStartDash x = comment_start_dash_fits table last x
turn_fits table last (s.Comment comment) x = comment_fits table last comment x
turn_fits table last (s.CommentLessThanSign comment) x = comment_less_than_fits table last comment x
turn_fits table last (s.CommentLessThanSignBang comment) x = comment_bang_fits table last comment x
turn_fits table last (s.CommentLessThanSignBangDash comment) x = comment_bang_dash_fits table last comment x
turn_fits table last (s.CommentLessThanSignBangDashDash comment) x = comment_bang_dash_dash_fits table last comment x
turn_fits table last (s.CommentEndDash comment) x = comment_end_dash_fits table last comment x
turn_fits table last (s.CommentEnd comment) x = comment_end_fits table last comment x
turn_fits table last (s.CommentEndBang comment) x = comment_end_bang_fits table last comment x
turn_fits table last s.BeginDoctype x = doctype_fits table last x
turn_fits table last s.BeforeDoctypeName x = before_doctype_name_fits table last x
turn_fits table last (s.DoctypeName doctype) x = doctype_name_fits table last doctype x
turn_fits table last (s.AfterDoctypeName doctype seen) x = after_doctype_name_fits table last doctype seen x
turn_fits table last (s.AfterDoctypeKeyword id doctype) x = doctype_keyword_fits table last id doctype x
turn_fits table last (s.BeforeDoctypeIdentifier id doctype) x = before_identifier_fits table last id doctype x
turn_fits table last (s.DoctypeIdentifier id quote doctype) x = identifier_fits table last id quote doctype x
turn_fits table last (s.AfterDoctypePublicIdentifier doctype) x = after_public_fits table last doctype x
turn_fits table last (s.BetweenDoctypeIdentifiers doctype) x = between_fits table last doctype x
turn_fits table last (s.AfterDoctypeSystemIdentifier doctype) x = after_system_fits table last doctype x
turn_fits table last (s.BogusDoctype doctype) x = bogus_doctype_fits table last doctype x
turn_fits table last s.CdataSectionBracket x = cdata_bracket_fits table last x
turn_fits table last s.CdataSectionEnd x = cdata_end_fits table last x
turn_fits table last (s.CharacterReference return) x = character_reference_fits table last return x
turn_fits table last (s.NamedCharacterReference return seen) x = named_reference_fits table last return seen x
turn_fits table last (s.AmbiguousAmpersand return) x = ambiguous_fits table last return x
turn_fits table last (s.NumericCharacterReference return) x = numeric_fits table last return x
turn_fits table last (s.HexadecimalStart return buffer) x = hexadecimal_start_fits table last return buffer x
turn_fits table last (s.DecimalStart return) x = decimal_start_fits table last return x
turn_fits table last (s.Hexadecimal return code) x = hexadecimal_fits table last return code x
turn_fits table last (s.Decimal return code) x = decimal_fits table last return code x
turn_fits table last (s.NumericCharacterReferenceEnd return code) x = numeric_end_fits table last return code x
