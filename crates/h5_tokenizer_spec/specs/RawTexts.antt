-- The states between the start tag of a raw element and its end tag, including those of the end tag.
use Rattle.std.specs.Prelude.{◌≡◌, true, List, [], ◌∷◌}
use Rattle.h5_token.specs.TokenText.{TokenText, DoctypeIs, TagIs, CommentIs, Characters, NullCharacter, EndOfFile, ParseErrorIs}
use Rattle.h5_tokenizer_spec.specs.declared.kinds.TextKind.{TextKind}
use Rattle.h5_tokenizer_spec.specs.declared.kinds.TextKind.TheVariants.{Data, Rcdata, Rawtext, ScriptData, Plaintext, CdataSection}
use Rattle.h5_tokenizer_spec.specs.Construction.{Tag}
use Rattle.h5_tokenizer_spec.specs.States as s
use Rattle.h5_tokenizer_spec.specs.States.{State, Return, ToData, ToRcdata, ToValue}
use Rattle.h5_tokenizer_spec.specs.Turn.{Outcome, Consumed, Reconsumed, Emitted, Asks, is_end}

abbrev pub IsRawText : TextKind → Type 0
IsRawText Data = ⊥
IsRawText Rcdata = Unit {0}
IsRawText Rawtext = Unit {0}
IsRawText ScriptData = Unit {0}
IsRawText Plaintext = ⊥
IsRawText CdataSection = ⊥

-- an end tag is being built
abbrev pub IsEnd : Tag → Type 0
IsEnd tag = is_end tag.kind ≡ true

abbrev pub ReturnsRaw : Return → Type 0
ReturnsRaw ToData = ⊥
ReturnsRaw ToRcdata = Unit {0}
ReturnsRaw (ToValue value tag) = IsEnd tag

abbrev pub IsRaw : State → Type 0
IsRaw (s.Text kind) = IsRawText kind
IsRaw (s.TagName tag) = IsEnd tag
IsRaw (s.RawLessThanSign kind) = Unit {0}
IsRaw (s.RawEndTagOpen kind) = Unit {0}
IsRaw (s.RawEndTagName kind buffer) = Unit {0}
IsRaw s.ScriptDataEscapeStart = Unit {0}
IsRaw s.ScriptDataEscapeStartDash = Unit {0}
IsRaw (s.ScriptDataEscaped depth) = Unit {0}
IsRaw (s.ScriptDataEscapedDash depth) = Unit {0}
IsRaw (s.ScriptDataEscapedDashDash depth) = Unit {0}
IsRaw (s.ScriptDataDoubleEscapeStart buffer) = Unit {0}
IsRaw s.ScriptDataDoubleEscapedLessThanSign = Unit {0}
IsRaw (s.ScriptDataDoubleEscapeEnd buffer) = Unit {0}
IsRaw (s.BeforeAttributeName tag) = IsEnd tag
IsRaw (s.AttributeName tag) = IsEnd tag
IsRaw (s.AfterAttributeName tag) = IsEnd tag
IsRaw (s.BeforeAttributeValue tag) = IsEnd tag
IsRaw (s.AttributeValue value tag) = IsEnd tag
IsRaw (s.AfterAttributeValueQuoted tag) = IsEnd tag
IsRaw (s.SelfClosingStartTag tag) = IsEnd tag
IsRaw (s.CharacterReference return) = ReturnsRaw return
IsRaw (s.NamedCharacterReference return seen) = ReturnsRaw return
IsRaw (s.AmbiguousAmpersand return) = ReturnsRaw return
IsRaw (s.NumericCharacterReference return) = ReturnsRaw return
IsRaw (s.HexadecimalStart return buffer) = ReturnsRaw return
IsRaw (s.DecimalStart return) = ReturnsRaw return
IsRaw (s.Hexadecimal return code) = ReturnsRaw return
IsRaw (s.Decimal return code) = ReturnsRaw return
IsRaw (s.NumericCharacterReferenceEnd return code) = ReturnsRaw return
IsRaw state = ⊥

abbrev pub IsEndTag : TokenText → Type 0
IsEndTag (DoctypeIs doctype) = ⊥
IsEndTag (TagIs tag) = is_end tag.kind ≡ true
IsEndTag (CommentIs text) = ⊥
IsEndTag (Characters text) = ⊥
IsEndTag NullCharacter = ⊥
IsEndTag EndOfFile = ⊥
IsEndTag (ParseErrorIs message) = ⊥

-- after a step: such a state, or an end tag
abbrev pub RawBehind : List TokenText → State → Type 0
RawBehind [] state = IsRaw state
RawBehind (Characters text ∷ ts) state = IsRaw state
RawBehind (t ∷ ts) state = IsEndTag t

-- such a state comes next, or an end tag is emitted; the adjusted current node isn't checked
abbrev pub StaysRaw : Outcome → Type 0
StaysRaw (Consumed text state) = IsRaw state
StaysRaw (Reconsumed text state) = IsRaw state
StaysRaw (Emitted token state) = IsEndTag token
StaysRaw (Asks there error elsewhere) = ⊥
