-- States that take bytes other than ASCII as they are. In these, such bytes are taken as a run.
use Rattle.std.specs.Prelude.{Bool, true, false}
use Rattle.h5_tokenizer_spec.specs.Turn.{Outcome, Consumed, Reconsumed, Emitted, Asks}
use Rattle.h5_tokenizer_states.specs.declared.machine_state.MachineState.{MachineState}
use Rattle.h5_tokenizer_states.specs.declared.machine_state.MachineState.TheVariants as at
use Rattle.h5_tokenizer_states.specs.declared.machine_state.TextState.{TextState}
use Rattle.h5_tokenizer_states.specs.declared.machine_state.TextState.TheVariants as t
use Rattle.h5_tokenizer_states.specs.declared.machine_state.TagState.{TagState}
use Rattle.h5_tokenizer_states.specs.declared.machine_state.TagState.TheVariants as g
use Rattle.h5_tokenizer_states.specs.declared.machine_state.CommentState.{CommentState}
use Rattle.h5_tokenizer_states.specs.declared.machine_state.CommentState.TheVariants as c
use Rattle.h5_tokenizer_states.specs.declared.machine_state.DoctypeState.{DoctypeState}
use Rattle.h5_tokenizer_states.specs.declared.machine_state.DoctypeState.TheVariants as d

abbrev pub text_takes_wide : TextState → Bool
text_takes_wide (t.Text kind) = true
text_takes_wide (t.ScriptDataEscaped depth) = true
text_takes_wide (t.ScriptDataEscapedDash depth) = true
text_takes_wide (t.ScriptDataEscapedDashDash depth) = true
text_takes_wide state = false

abbrev pub tag_takes_wide : TagState → Bool
tag_takes_wide g.TagName = true
tag_takes_wide g.AttributeName = true
tag_takes_wide (g.AttributeValue kind) = true
tag_takes_wide state = false

abbrev pub comment_takes_wide : CommentState → Bool
comment_takes_wide c.BogusComment = true
comment_takes_wide c.Comment = true
comment_takes_wide state = false

abbrev pub doctype_takes_wide : DoctypeState → Bool
doctype_takes_wide d.BeforeDoctypeName = true
doctype_takes_wide d.DoctypeName = true
doctype_takes_wide (d.DoctypeIdentifier id quote) = true
doctype_takes_wide d.BogusDoctype = true
doctype_takes_wide state = false

abbrev pub takes_wide : MachineState → Bool
takes_wide (at.Text state) = text_takes_wide state
takes_wide (at.Tag state) = tag_takes_wide state
takes_wide (at.Comment state) = comment_takes_wide state
takes_wide (at.Doctype state) = doctype_takes_wide state
takes_wide (at.Reference state return_to) = false

-- a byte is reconsumed
abbrev pub IsReconsumed : Outcome → Type 0
IsReconsumed (Consumed text state) = ⊥
IsReconsumed (Reconsumed text state) = Unit {0}
IsReconsumed (Emitted token state) = ⊥
IsReconsumed (Asks there error elsewhere) = ⊥
