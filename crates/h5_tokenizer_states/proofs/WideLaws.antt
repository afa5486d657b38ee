-- A byte outside ASCII is reconsumed in each state that doesn't take it as part of a run.
use Rattle.std.proofs.Common.{◌≡◌, ℕ, ◌≤◌, false, List, true≢false, arith}
use Rattle.std.specs.Prelude.{Option, Some, None}
use Rattle.h5_tokenizer_spec.specs.ReferenceTable.{references}
use Rattle.h5_tokenizer_spec.specs.References.{Longest, longest, named}
use Rattle.h5_tokenizer_spec.specs.States as s
use Rattle.h5_tokenizer_spec.specs.States.{Return}
use Rattle.h5_tokenizer_states.proofs.AheadLaws.{opens_nothing, ends_no_keyword}
use Rattle.h5_tokenizer_states.proofs.ReferenceLaws.{no_beginning}
use Rattle.h5_tokenizer_spec.specs.Machine.{turn}
use Rattle.h5_tokenizer_spec.specs.declared.kinds.RawTextKind.TheVariants as raw
use Rattle.h5_tokenizer_states.specs.Parts.{Parts}
use Rattle.h5_tokenizer_states.specs.StateOf.{state_of, value_of}
use Rattle.h5_tokenizer_states.specs.Wide.{takes_wide, IsReconsumed}
use Rattle.h5_tokenizer_states.specs.declared.machine_state.MachineState.{MachineState}
use Rattle.h5_tokenizer_states.specs.declared.machine_state.MachineState.TheVariants as at
use Rattle.h5_tokenizer_states.specs.declared.machine_state.TextState.TheVariants as t
use Rattle.h5_tokenizer_states.specs.declared.machine_state.TagState.TheVariants as g
use Rattle.h5_tokenizer_states.specs.declared.machine_state.CommentState.TheVariants as c
use Rattle.h5_tokenizer_states.specs.declared.machine_state.DoctypeState.TheVariants as d
use Rattle.h5_tokenizer_states.specs.declared.machine_state.ReferenceState.TheVariants as r
use Rattle.h5_tokenizer_states.specs.declared.machine_state.ReturnTo.TheVariants as to

named_is_reconsumed : (return : Return) (seen : List ℕ) (x : ℕ) (found : Option Longest) → IsReconsumed (named return seen x found).outcome
named_is_reconsumed s.ToData seen x None = tt
named_is_reconsumed s.ToRcdata seen x None = tt
named_is_reconsumed (s.ToValue value tag) seen x None = tt
named_is_reconsumed s.ToData seen x (Some found) = grind arith
named_is_reconsumed s.ToRcdata seen x (Some found) = grind arith
named_is_reconsumed (s.ToValue value tag) seen x (Some found) = grind arith

pub wide_is_reconsumed : (last : List ℕ) (state : MachineState) (parts : Parts) (x : ℕ) → takes_wide state ≡ false → 128 ≤ x
    → IsReconsumed (turn references last (state_of state parts) x).outcome
wide_is_reconsumed last (at.Text (t.RawLessThanSign raw.Rcdata)) parts x h w = grind (arith)
wide_is_reconsumed last (at.Text (t.RawLessThanSign raw.Rawtext)) parts x h w = grind (arith)
wide_is_reconsumed last (at.Text (t.RawLessThanSign raw.ScriptData)) parts x h w = grind (arith)
wide_is_reconsumed last (at.Text (t.RawLessThanSign raw.EscapedScriptData)) parts x h w = grind (arith)
wide_is_reconsumed last (at.Text (t.RawEndTagOpen kind)) parts x h w = grind (arith)
wide_is_reconsumed last (at.Text (t.RawEndTagName kind)) parts x h w = grind (arith)
wide_is_reconsumed last (at.Text t.ScriptDataDoubleEscapeEnd) parts x h w = grind (arith)
wide_is_reconsumed last (at.Text t.ScriptDataEscapeStart) parts x h w = grind (arith)
wide_is_reconsumed last (at.Text t.ScriptDataEscapeStartDash) parts x h w = grind (arith)
wide_is_reconsumed last (at.Text t.ScriptDataDoubleEscapeStart) parts x h w = grind (arith)
wide_is_reconsumed last (at.Text t.ScriptDataDoubleEscapedLessThanSign) parts x h w = grind (arith)
wide_is_reconsumed last (at.Text t.CdataSectionBracket) parts x h w = grind (arith)
wide_is_reconsumed last (at.Text t.CdataSectionEnd) parts x h w = grind (arith)
wide_is_reconsumed last (at.Tag g.TagOpen) parts x h w = grind (arith)
wide_is_reconsumed last (at.Tag g.EndTagOpen) parts x h w = grind (arith)
wide_is_reconsumed last (at.Tag g.BeforeAttributeName) parts x h w = grind (arith)
wide_is_reconsumed last (at.Tag g.AfterAttributeName) parts x h w = grind (arith)
wide_is_reconsumed last (at.Tag g.BeforeAttributeValue) parts x h w = grind (arith)
wide_is_reconsumed last (at.Tag g.AfterAttributeValueQuoted) parts x h w = grind (arith)
wide_is_reconsumed last (at.Tag g.SelfClosingStartTag) parts x h w = grind (arith)
wide_is_reconsumed last (at.Comment c.MarkupDeclarationOpen) parts x h w = rw (opens_nothing parts.comment x w) tt
wide_is_reconsumed last (at.Comment c.CommentStart) parts x h w = grind (arith)
wide_is_reconsumed last (at.Comment c.CommentStartDash) parts x h w = grind (arith)
wide_is_reconsumed last (at.Comment c.CommentLessThanSign) parts x h w = grind (arith)
wide_is_reconsumed last (at.Comment c.CommentLessThanSignBang) parts x h w = grind (arith)
wide_is_reconsumed last (at.Comment c.CommentLessThanSignBangDash) parts x h w = grind (arith)
wide_is_reconsumed last (at.Comment c.CommentLessThanSignBangDashDash) parts x h w = grind (arith)
wide_is_reconsumed last (at.Comment c.CommentEndDash) parts x h w = grind (arith)
wide_is_reconsumed last (at.Comment c.CommentEnd) parts x h w = grind (arith)
wide_is_reconsumed last (at.Comment c.CommentEndBang) parts x h w = grind (arith)
wide_is_reconsumed last (at.Doctype d.BeginDoctype) parts x h w = grind (arith)
wide_is_reconsumed last (at.Doctype d.AfterDoctypeName) parts x h w = rw (ends_no_keyword parts.doctype parts.buffer x w) tt
wide_is_reconsumed last (at.Doctype (d.AfterDoctypeKeyword id)) parts x h w = grind (arith)
wide_is_reconsumed last (at.Doctype (d.BeforeDoctypeIdentifier id)) parts x h w = grind (arith)
wide_is_reconsumed last (at.Doctype d.AfterDoctypePublicIdentifier) parts x h w = grind (arith)
wide_is_reconsumed last (at.Doctype d.BetweenDoctypeIdentifiers) parts x h w = grind (arith)
wide_is_reconsumed last (at.Doctype d.AfterDoctypeSystemIdentifier) parts x h w = grind (arith)
wide_is_reconsumed last (at.Reference r.CharacterReference to.Data) parts x h w = grind (arith)
wide_is_reconsumed last (at.Reference r.CharacterReference to.Rcdata) parts x h w = grind (arith)
wide_is_reconsumed last (at.Reference r.CharacterReference (to.Value value)) parts x h w = grind (arith)
wide_is_reconsumed last (at.Reference r.NamedCharacterReference to.Data) parts x h w = rw (no_beginning parts.seen x w) (named_is_reconsumed s.ToData parts.seen x (longest references parts.seen))
wide_is_reconsumed last (at.Reference r.NamedCharacterReference to.Rcdata) parts x h w = rw (no_beginning parts.seen x w) (named_is_reconsumed s.ToRcdata parts.seen x (longest references parts.seen))
wide_is_reconsumed last (at.Reference r.NamedCharacterReference (to.Value value)) parts x h w = rw (no_beginning parts.seen x w) (named_is_reconsumed (s.ToValue (value_of value) parts.tag) parts.seen x (longest references parts.seen))
wide_is_reconsumed last (at.Reference r.AmbiguousAmpersand to.Data) parts x h w = grind (arith)
wide_is_reconsumed last (at.Reference r.AmbiguousAmpersand to.Rcdata) parts x h w = grind (arith)
wide_is_reconsumed last (at.Reference r.AmbiguousAmpersand (to.Value value)) parts x h w = grind (arith)
wide_is_reconsumed last (at.Reference r.NumericCharacterReference to.Data) parts x h w = grind (arith)
wide_is_reconsumed last (at.Reference r.NumericCharacterReference to.Rcdata) parts x h w = grind (arith)
wide_is_reconsumed last (at.Reference r.NumericCharacterReference (to.Value value)) parts x h w = grind (arith)
wide_is_reconsumed last (at.Reference r.HexadecimalStart to.Data) parts x h w = grind (arith)
wide_is_reconsumed last (at.Reference r.HexadecimalStart to.Rcdata) parts x h w = grind (arith)
wide_is_reconsumed last (at.Reference r.HexadecimalStart (to.Value value)) parts x h w = grind (arith)
wide_is_reconsumed last (at.Reference r.DecimalStart to.Data) parts x h w = grind (arith)
wide_is_reconsumed last (at.Reference r.DecimalStart to.Rcdata) parts x h w = grind (arith)
wide_is_reconsumed last (at.Reference r.DecimalStart (to.Value value)) parts x h w = grind (arith)
wide_is_reconsumed last (at.Reference r.Hexadecimal to.Data) parts x h w = grind (arith)
wide_is_reconsumed last (at.Reference r.Hexadecimal to.Rcdata) parts x h w = grind (arith)
wide_is_reconsumed last (at.Reference r.Hexadecimal (to.Value value)) parts x h w = grind (arith)
wide_is_reconsumed last (at.Reference r.Decimal to.Data) parts x h w = grind (arith)
wide_is_reconsumed last (at.Reference r.Decimal to.Rcdata) parts x h w = grind (arith)
wide_is_reconsumed last (at.Reference r.Decimal (to.Value value)) parts x h w = grind (arith)
wide_is_reconsumed last (at.Reference r.NumericCharacterReferenceEnd to.Data) parts x h w = grind (arith)
wide_is_reconsumed last (at.Reference r.NumericCharacterReferenceEnd to.Rcdata) parts x h w = grind (arith)
wide_is_reconsumed last (at.Reference r.NumericCharacterReferenceEnd (to.Value value)) parts x h w = grind (arith)
wide_is_reconsumed last (at.Text (t.Text kind)) parts x h w = absurd (true≢false h)
wide_is_reconsumed last (at.Text (t.ScriptDataEscaped depth)) parts x h w = absurd (true≢false h)
wide_is_reconsumed last (at.Text (t.ScriptDataEscapedDash depth)) parts x h w = absurd (true≢false h)
wide_is_reconsumed last (at.Text (t.ScriptDataEscapedDashDash depth)) parts x h w = absurd (true≢false h)
wide_is_reconsumed last (at.Tag g.TagName) parts x h w = absurd (true≢false h)
wide_is_reconsumed last (at.Tag g.AttributeName) parts x h w = absurd (true≢false h)
wide_is_reconsumed last (at.Tag (g.AttributeValue kind)) parts x h w = absurd (true≢false h)
wide_is_reconsumed last (at.Comment c.BogusComment) parts x h w = absurd (true≢false h)
wide_is_reconsumed last (at.Comment c.Comment) parts x h w = absurd (true≢false h)
wide_is_reconsumed last (at.Doctype d.BeforeDoctypeName) parts x h w = absurd (true≢false h)
wide_is_reconsumed last (at.Doctype d.DoctypeName) parts x h w = absurd (true≢false h)
wide_is_reconsumed last (at.Doctype (d.DoctypeIdentifier id quote)) parts x h w = absurd (true≢false h)
wide_is_reconsumed last (at.Doctype d.BogusDoctype) parts x h w = absurd (true≢false h)
