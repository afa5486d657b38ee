-- Between the start tag of a raw element and its end tag only text and an end tag are emitted.
use Rattle.std.proofs.Common.{ℕ, true, false, List, [], ◌∷◌, ◌++◌, Bool, if◌then◌else◌, ◌==◌, codes, subst}
use Rattle.std.specs.Char.{is_ascii_digit}
use Rattle.std.specs.Prelude.{Option, Some, None}
use Rattle.h5_token.specs.Reply.{Reply, TurnsRaw}
use Rattle.h5_token.specs.TokenText.{TokenText, DoctypeIs, TagIs, CommentIs, Characters, NullCharacter, EndOfFile, ParseErrorIs}
use Rattle.h5_token.specs.declared.states.RawKind.{RawKind}
use Rattle.h5_token.specs.declared.states.RawKind.TheVariants as chosen
use Rattle.h5_markup.specs.Attributes.{is_named_in}
use Rattle.h5_tokenizer_spec.specs.declared.kinds.TextKind.{TextKind}
use Rattle.h5_tokenizer_spec.specs.declared.kinds.TextKind.TheVariants.{Data, Rcdata, Rawtext, ScriptData, Plaintext, CdataSection}
use Rattle.h5_tokenizer_spec.specs.declared.kinds.RawTextKind.{RawTextKind}
use Rattle.h5_tokenizer_spec.specs.declared.kinds.RawTextKind.TheVariants as raw
use Rattle.h5_tokenizer_spec.specs.declared.kinds.Escape.{Escape}
use Rattle.h5_tokenizer_spec.specs.declared.kinds.Escape.TheVariants.{Escaped, DoubleEscaped}
use Rattle.h5_tokenizer_spec.specs.Signs.{is_alphanumeric, is_hex_digit, semicolon, number_sign}
use Rattle.h5_tokenizer_spec.specs.Construction.{Attribute, Tag, with_complete, completed}
use Rattle.h5_tokenizer_spec.specs.States as s
use Rattle.h5_tokenizer_spec.specs.States.{State, Return, ToData, ToRcdata, ToValue, Value, Quoted, Unquoted, returned, text_of}
use Rattle.h5_tokenizer_spec.specs.Turn.{Turn, flush, flush_again}
use Rattle.h5_tokenizer_spec.specs.References.{Reference, Longest, longest, is_beginning, is_historical, named, unnamed, in_ambiguous, code_point}
use Rattle.h5_tokenizer_spec.specs.Machine.{turn}
use Rattle.h5_tokenizer_spec.specs.Lines.{normal}
use Rattle.h5_tokenizer_spec.specs.Reading.{ReaderPlace, chosen_state, Passes, passed, drops, goes, again, Step, quiet_step, text_step, token_step, ask_step}
use Rattle.h5_tokenizer_spec.specs.RawTexts.{IsRawText, IsEnd, IsEndTag, ReturnsRaw, IsRaw, RawBehind, StaysRaw}

record Keeps (t : Turn) : Type 0 where
  outcome : StaysRaw t.outcome

keeps : {t : Turn} → StaysRaw t.outcome → Keeps t
keeps h = record { outcome = h }

either : (b : Bool) (t u : Turn) → Keeps t → Keeps u → Keeps (if b then t else u)
either true t u f g = f
either false t u f g = g

end_by : (b : Bool) (t u : Tag) → IsEnd t → IsEnd u → IsEnd (if b then t else u)
end_by true t u h g = h
end_by false t u h g = g

complete_end : (t : Tag) (current : Option Attribute) → IsEnd t → IsEnd (with_complete t current)
complete_end t None h = h
complete_end t (Some a) h = end_by (is_named_in a.name t.attrs) _ _ h h

completed_end : (t : Tag) → IsEnd t → IsEnd (completed t)
completed_end t h = complete_end t t.current h

text_keeps : (table : List Reference) (last : List ℕ) (kind : TextKind) (x : ℕ) → IsRawText kind → Keeps (turn table last (s.Text kind) x)
text_keeps table last Data x h = absurd h
text_keeps table last Rcdata x h = search (either, keeps)
text_keeps table last Rawtext x h = search (either, keeps)
text_keeps table last ScriptData x h = search (either, keeps)
text_keeps table last Plaintext x h = absurd h
text_keeps table last CdataSection x h = absurd h

raw_text_raw : (kind : RawTextKind) → IsRaw (text_of kind)
raw_text_raw raw.Rcdata = tt
raw_text_raw raw.Rawtext = tt
raw_text_raw raw.ScriptData = tt
raw_text_raw raw.EscapedScriptData = tt

less_than_keeps : (table : List Reference) (last : List ℕ) (kind : RawTextKind) (x : ℕ) → Keeps (turn table last (s.RawLessThanSign kind) x)
less_than_keeps table last raw.Rcdata x = search (either, keeps)
less_than_keeps table last raw.Rawtext x = search (either, keeps)
less_than_keeps table last raw.ScriptData x = search (either, keeps)
less_than_keeps table last raw.EscapedScriptData x = search (either, keeps)

escaped_keeps : (table : List Reference) (last : List ℕ) (depth : Escape) (x : ℕ) → Keeps (turn table last (s.ScriptDataEscaped depth) x)
escaped_keeps table last Escaped x = search (either, keeps)
escaped_keeps table last DoubleEscaped x = search (either, keeps)

escaped_dash_keeps : (table : List Reference) (last : List ℕ) (depth : Escape) (x : ℕ) → Keeps (turn table last (s.ScriptDataEscapedDash depth) x)
escaped_dash_keeps table last Escaped x = search (either, keeps)
escaped_dash_keeps table last DoubleEscaped x = search (either, keeps)

escaped_dash_dash_keeps : (table : List Reference) (last : List ℕ) (depth : Escape) (x : ℕ) → Keeps (turn table last (s.ScriptDataEscapedDashDash depth) x)
escaped_dash_dash_keeps table last Escaped x = search (either, keeps) depth 12
escaped_dash_dash_keeps table last DoubleEscaped x = search (either, keeps) depth 12

value_keeps : (table : List Reference) (last : List ℕ) (value : Value) (tag : Tag) (x : ℕ) → IsEnd tag → Keeps (turn table last (s.AttributeValue value tag) x)
value_keeps table last (Quoted quote) tag x h = search (either, keeps) depth 12
value_keeps table last Unquoted tag x h = search (either, keeps, completed_end) depth 12

flush_keeps : (return : Return) (text : List ℕ) → ReturnsRaw return → Keeps (flush return text)
flush_keeps ToData text h = absurd h
flush_keeps ToRcdata text h = keeps tt
flush_keeps (ToValue value tag) text h = keeps h

flush_again_keeps : (return : Return) (text : List ℕ) → ReturnsRaw return → Keeps (flush_again return text)
flush_again_keeps ToData text h = absurd h
flush_again_keeps ToRcdata text h = keeps tt
flush_again_keeps (ToValue value tag) text h = keeps h

unnamed_keeps : (return : Return) (text : List ℕ) → ReturnsRaw return → Keeps (unnamed return text)
unnamed_keeps ToData text h = absurd h
unnamed_keeps ToRcdata text h = keeps tt
unnamed_keeps (ToValue value tag) text h = keeps h

named_keeps : (return : Return) (seen : List ℕ) (x : ℕ) (found : Option Longest) → ReturnsRaw return → Keeps (named return seen x found)
named_keeps return seen x None h = unnamed_keeps return (codes "&" ++ seen) h
named_keeps return seen x (Some found) h =
    either (is_historical return found x) _ _ (flush_again_keeps return (codes "&" ++ seen) h) (keeps (flush_again_keeps return (found.text ++ found.rest) h).outcome)

ambiguous_keeps : (return : Return) (x : ℕ) → ReturnsRaw return → Keeps (in_ambiguous x return)
ambiguous_keeps ToData x h = absurd h
ambiguous_keeps ToRcdata x h = keeps tt
ambiguous_keeps (ToValue value tag) x h = keeps h

returned_raw : (return : Return) → ReturnsRaw return → IsRaw (returned return)
returned_raw ToData h = absurd h
returned_raw ToRcdata h = tt
returned_raw (ToValue value tag) h = h

-- each row
turn_keeps : (table : List Reference) (last : List ℕ) (state : State) (x : ℕ) → IsRaw state → Keeps (turn table last state x)
turn_keeps table last (s.Text kind) x h = text_keeps table last kind x h
turn_keeps table last (s.TagName tag) x h = search (either, keeps, completed_end) depth 12
turn_keeps table last (s.RawLessThanSign kind) x h = less_than_keeps table last kind x
turn_keeps table last (s.RawEndTagOpen kind) x h = search (either, keeps, raw_text_raw)
turn_keeps table last (s.RawEndTagName kind buffer) x h = search (either, keeps, raw_text_raw) depth 12
turn_keeps table last s.ScriptDataEscapeStart x h = search (either, keeps)
turn_keeps table last s.ScriptDataEscapeStartDash x h = search (either, keeps)
turn_keeps table last (s.ScriptDataEscaped depth) x h = escaped_keeps table last depth x
turn_keeps table last (s.ScriptDataEscapedDash depth) x h = escaped_dash_keeps table last depth x
turn_keeps table last (s.ScriptDataEscapedDashDash depth) x h = escaped_dash_dash_keeps table last depth x
turn_keeps table last (s.ScriptDataDoubleEscapeStart buffer) x h = search (either, keeps)
turn_keeps table last s.ScriptDataDoubleEscapedLessThanSign x h = search (either, keeps)
turn_keeps table last (s.ScriptDataDoubleEscapeEnd buffer) x h = search (either, keeps)
turn_keeps table last (s.BeforeAttributeName tag) x h = search (either, keeps, completed_end) depth 12
turn_keeps table last (s.AttributeName tag) x h = search (either, keeps) depth 12
turn_keeps table last (s.AfterAttributeName tag) x h = search (either, keeps, completed_end) depth 12
turn_keeps table last (s.BeforeAttributeValue tag) x h = search (either, keeps, completed_end) depth 12
turn_keeps table last (s.AttributeValue value tag) x h = value_keeps table last value tag x h
turn_keeps table last (s.AfterAttributeValueQuoted tag) x h = search (either, keeps, completed_end) depth 12
turn_keeps table last (s.SelfClosingStartTag tag) x h = search (either, keeps, completed_end) depth 12
turn_keeps table last (s.CharacterReference return) x h =
    either (is_alphanumeric x) _ _ (keeps h) (either (x == number_sign) _ _ (keeps h) (flush_again_keeps return (codes "&") h))
turn_keeps table last (s.NamedCharacterReference return seen) x h =
    either (is_beginning table (seen ++ (x ∷ []))) _ _ (keeps h) (named_keeps return seen x (longest table seen) h)
turn_keeps table last (s.AmbiguousAmpersand return) x h = either (is_alphanumeric x) _ _ (ambiguous_keeps return x h) (keeps (returned_raw return h))
turn_keeps table last (s.NumericCharacterReference return) x h = search (either, keeps)
turn_keeps table last (s.HexadecimalStart return buffer) x h = either (is_hex_digit x) _ _ (keeps h) (keeps (flush_again_keeps return (codes "&#" ++ buffer) h).outcome)
turn_keeps table last (s.DecimalStart return) x h = either (is_ascii_digit x) _ _ (keeps h) (keeps (flush_again_keeps return (codes "&#") h).outcome)
turn_keeps table last (s.Hexadecimal return code) x h =
    either (is_hex_digit x) _ _ (keeps h) (either (x == semicolon) _ _ (keeps (flush_keeps return (code_point code) h).outcome) (keeps h))
turn_keeps table last (s.Decimal return code) x h =
    either (is_ascii_digit x) _ _ (keeps h) (either (x == semicolon) _ _ (keeps (flush_keeps return (code_point code) h).outcome) (keeps h))
turn_keeps table last (s.NumericCharacterReferenceEnd return code) x h = keeps (flush_again_keeps return (code_point code) h).outcome
turn_keeps table last state x h = absurd h

pub chosen_raw : (kind : RawKind) → IsRaw (chosen_state (TurnsRaw kind))
chosen_raw chosen.Rcdata = tt
chosen_raw chosen.Rawtext = tt
chosen_raw chosen.ScriptData = tt

pub stays_raw : (table : List Reference) (last : List ℕ) (state : State) (x : ℕ) → IsRaw state → StaysRaw (turn table last state x).outcome
stays_raw table last state x h = (turn_keeps table last state x h).outcome

passes_raw : (table : List Reference) {p q : ReaderPlace} {xs text ys : List ℕ} → Passes table p xs text q ys → IsRaw p.state → IsRaw q.state
passes_raw table passed h = h
passes_raw table (drops d rest) h = passes_raw table rest h
passes_raw table {p} (goes {x = x} text state d e rest) h = passes_raw table rest (subst StaysRaw e (stays_raw table p.last p.state (normal x) h))
passes_raw table {p} (again {x = x} text state d e rest) h = passes_raw table rest (subst StaysRaw e (stays_raw table p.last p.state (normal x) h))

end_behind : (t : TokenText) (state : State) → IsEndTag t → RawBehind (t ∷ []) state
end_behind (DoctypeIs doctype) state h = h
end_behind (TagIs tag) state h = h
end_behind (CommentIs text) state h = h
end_behind (Characters text) state h = absurd h
end_behind NullCharacter state h = h
end_behind EndOfFile state h = h
end_behind (ParseErrorIs message) state h = h

pub step_raw : (table : List Reference) {M : Type 0} (reply_to : M → TokenText → Reply) (after : M → TokenText → ℕ → M) (foreign : M → Bool)
    {p : ReaderPlace} {m : M} {xs : List ℕ} {ts : List TokenText} {reply : Reply} {q : ReaderPlace} {n : M} {ys : List ℕ}
    → IsRaw p.state → Step table reply_to after foreign p m xs ts reply q n ys → RawBehind ts q.state
step_raw table reply_to after foreign h (quiet_step passes) = passes_raw table passes h
step_raw table reply_to after foreign h (text_step passes) = passes_raw table passes h
step_raw table reply_to after foreign {p} {q = q} h (token_step {x = x} token state d e) =
    end_behind token q.state (subst StaysRaw e (stays_raw table p.last p.state (normal x) h))
step_raw table reply_to after foreign {p} h (ask_step {x = x} there error elsewhere d e) = absurd (subst StaysRaw e (stays_raw table p.last p.state (normal x) h))
