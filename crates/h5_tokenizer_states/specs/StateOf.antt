-- The state of a machine.
use Rattle.std.specs.Prelude.{ℕ, List}
use Rattle.h5_token.specs.TokenText.{DoctypeText}
use Rattle.h5_tokenizer_spec.specs.Construction.{Tag}
use Rattle.h5_tokenizer_spec.specs.States as s
use Rattle.h5_tokenizer_spec.specs.States.{State, Value, Return}
use Rattle.h5_tokenizer_states.specs.Parts.{Parts}
use Rattle.h5_tokenizer_states.specs.declared.machine_state.MachineState.{MachineState}
use Rattle.h5_tokenizer_states.specs.declared.machine_state.MachineState.TheVariants as at
use Rattle.h5_tokenizer_states.specs.declared.machine_state.TextState.{TextState}
use Rattle.h5_tokenizer_states.specs.declared.machine_state.TextState.TheVariants as t
use Rattle.h5_tokenizer_states.specs.declared.machine_state.TagState.{TagState}
use Rattle.h5_tokenizer_states.specs.declared.machine_state.TagState.TheVariants as g
use Rattle.h5_tokenizer_states.specs.declared.machine_state.CommentState.{CommentState}
use Rattle.h5_tokenizer_states.specs.declared.machine_state.CommentState.TheVariants as c
use Rattle.h5_tokenizer_states.specs.declared.machine_state.DoctypeState.{DoctypeState}
use Rattle.h5_tokenizer_states.specs.declared.machine_state.DoctypeState.TheVariants as d
use Rattle.h5_tokenizer_states.specs.declared.machine_state.ReferenceState.{ReferenceState}
use Rattle.h5_tokenizer_states.specs.declared.machine_state.ReferenceState.TheVariants as r
use Rattle.h5_tokenizer_states.specs.declared.machine_state.ReturnTo.{ReturnTo}
use Rattle.h5_tokenizer_states.specs.declared.machine_state.ReturnTo.TheVariants as to
use Rattle.h5_tokenizer_states.specs.declared.machine_state.ValueKind.{ValueKind}
use Rattle.h5_tokenizer_states.specs.declared.machine_state.ValueKind.TheVariants as v

abbrev pub value_of : ValueKind → Value
value_of (v.Quoted quote) = s.Quoted quote
value_of v.Unquoted = s.Unquoted

abbrev pub return_of : ReturnTo → Tag → Return
return_of to.Data tag = s.ToData
return_of to.Rcdata tag = s.ToRcdata
return_of (to.Value value) tag = s.ToValue (value_of value) tag

abbrev pub text_state_of : TextState → List ℕ → State
text_state_of (t.Text kind) buffer = s.Text kind
text_state_of (t.RawLessThanSign kind) buffer = s.RawLessThanSign kind
text_state_of (t.RawEndTagOpen kind) buffer = s.RawEndTagOpen kind
text_state_of (t.RawEndTagName kind) buffer = s.RawEndTagName kind buffer
text_state_of t.ScriptDataEscapeStart buffer = s.ScriptDataEscapeStart
text_state_of t.ScriptDataEscapeStartDash buffer = s.ScriptDataEscapeStartDash
text_state_of (t.ScriptDataEscaped depth) buffer = s.ScriptDataEscaped depth
text_state_of (t.ScriptDataEscapedDash depth) buffer = s.ScriptDataEscapedDash depth
text_state_of (t.ScriptDataEscapedDashDash depth) buffer = s.ScriptDataEscapedDashDash depth
text_state_of t.ScriptDataDoubleEscapeStart buffer = s.ScriptDataDoubleEscapeStart buffer
text_state_of t.ScriptDataDoubleEscapedLessThanSign buffer = s.ScriptDataDoubleEscapedLessThanSign
text_state_of t.ScriptDataDoubleEscapeEnd buffer = s.ScriptDataDoubleEscapeEnd buffer
text_state_of t.CdataSectionBracket buffer = s.CdataSectionBracket
text_state_of t.CdataSectionEnd buffer = s.CdataSectionEnd

abbrev pub tag_state_of : TagState → Tag → State
tag_state_of g.TagOpen tag = s.TagOpen
tag_state_of g.EndTagOpen tag = s.EndTagOpen
tag_state_of g.TagName tag = s.TagName tag
tag_state_of g.BeforeAttributeName tag = s.BeforeAttributeName tag
tag_state_of g.AttributeName tag = s.AttributeName tag
tag_state_of g.AfterAttributeName tag = s.AfterAttributeName tag
tag_state_of g.BeforeAttributeValue tag = s.BeforeAttributeValue tag
tag_state_of (g.AttributeValue value) tag = s.AttributeValue (value_of value) tag
tag_state_of g.AfterAttributeValueQuoted tag = s.AfterAttributeValueQuoted tag
tag_state_of g.SelfClosingStartTag tag = s.SelfClosingStartTag tag

abbrev pub comment_state_of : CommentState → List ℕ → State
comment_state_of c.BogusComment comment = s.BogusComment comment
comment_state_of c.MarkupDeclarationOpen comment = s.MarkupDeclarationOpen comment
comment_state_of c.CommentStart comment = s.CommentStart
comment_state_of c.CommentStartDash comment = s.CommentStartDash
comment_state_of c.Comment comment = s.Comment comment
comment_state_of c.CommentLessThanSign comment = s.CommentLessThanSign comment
comment_state_of c.CommentLessThanSignBang comment = s.CommentLessThanSignBang comment
comment_state_of c.CommentLessThanSignBangDash comment = s.CommentLessThanSignBangDash comment
comment_state_of c.CommentLessThanSignBangDashDash comment = s.CommentLessThanSignBangDashDash comment
comment_state_of c.CommentEndDash comment = s.CommentEndDash comment
comment_state_of c.CommentEnd comment = s.CommentEnd comment
comment_state_of c.CommentEndBang comment = s.CommentEndBang comment

abbrev pub doctype_state_of : DoctypeState → DoctypeText → List ℕ → State
doctype_state_of d.BeginDoctype doctype buffer = s.BeginDoctype
doctype_state_of d.BeforeDoctypeName doctype buffer = s.BeforeDoctypeName
doctype_state_of d.DoctypeName doctype buffer = s.DoctypeName doctype
doctype_state_of d.AfterDoctypeName doctype buffer = s.AfterDoctypeName doctype buffer
doctype_state_of (d.AfterDoctypeKeyword id) doctype buffer = s.AfterDoctypeKeyword id doctype
doctype_state_of (d.BeforeDoctypeIdentifier id) doctype buffer = s.BeforeDoctypeIdentifier id doctype
doctype_state_of (d.DoctypeIdentifier id quote) doctype buffer = s.DoctypeIdentifier id quote doctype
doctype_state_of d.AfterDoctypePublicIdentifier doctype buffer = s.AfterDoctypePublicIdentifier doctype
doctype_state_of d.BetweenDoctypeIdentifiers doctype buffer = s.BetweenDoctypeIdentifiers doctype
doctype_state_of d.AfterDoctypeSystemIdentifier doctype buffer = s.AfterDoctypeSystemIdentifier doctype
doctype_state_of d.BogusDoctype doctype buffer = s.BogusDoctype doctype

abbrev pub reference_state_of : ReferenceState → Return → List ℕ → ℕ → State
reference_state_of r.CharacterReference return seen code = s.CharacterReference return
reference_state_of r.NamedCharacterReference return seen code = s.NamedCharacterReference return seen
reference_state_of r.AmbiguousAmpersand return seen code = s.AmbiguousAmpersand return
reference_state_of r.NumericCharacterReference return seen code = s.NumericCharacterReference return
reference_state_of r.HexadecimalStart return seen code = s.HexadecimalStart return seen
reference_state_of r.DecimalStart return seen code = s.DecimalStart return
reference_state_of r.Hexadecimal return seen code = s.Hexadecimal return code
reference_state_of r.Decimal return seen code = s.Decimal return code
reference_state_of r.NumericCharacterReferenceEnd return seen code = s.NumericCharacterReferenceEnd return code

abbrev pub state_of : MachineState → Parts → State
state_of (at.Text state) parts = text_state_of state parts.buffer
state_of (at.Tag state) parts = tag_state_of state parts.tag
state_of (at.Comment state) parts = comment_state_of state parts.comment
state_of (at.Doctype state) parts = doctype_state_of state parts.doctype parts.buffer
state_of (at.Reference state return_to) parts = reference_state_of state (return_of return_to parts.tag) parts.seen parts.code
