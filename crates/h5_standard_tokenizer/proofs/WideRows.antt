-- Rows that take a byte outside ASCII as it is: they consume it, and report no error.
use Rattle.std.proofs.Common.{◌≡◌, ℕ, ◌≤◌, Bool, true, false, List, [], ◌∷◌, ◌++◌, refl, arith}
use Rattle.std.proofs.lemmas.Bool.{false≢true}
use Rattle.std.specs.Char.{to_ascii_lowercase}
use Rattle.h5_tokenizer_spec.specs.declared.kinds.TextKind.TheVariants as kind
use Rattle.h5_tokenizer_spec.specs.declared.kinds.Quote.TheVariants as quote
use Rattle.h5_tokenizer_spec.specs.Construction.{named_further, attribute_named_further, value_further, new_doctype, doctype_named_further, identifier_further}
use Rattle.h5_tokenizer_spec.specs.Machine.{turn}
use Rattle.h5_tokenizer_spec.specs.ReferenceTable.{references}
use Rattle.h5_tokenizer_spec.specs.States as s
use Rattle.h5_tokenizer_spec.specs.States.{State}
use Rattle.h5_tokenizer_spec.specs.Turn.{Turn, Consumed}
use Rattle.h5_tokenizer_states.specs.Parts.{Parts}
use Rattle.h5_tokenizer_states.specs.StateOf.{state_of}
use Rattle.h5_tokenizer_states.specs.Wide.{takes_wide}
use Rattle.h5_tokenizer_states.specs.declared.machine_state.MachineState.{MachineState}
use Rattle.h5_tokenizer_states.specs.declared.machine_state.MachineState.TheVariants as at
use Rattle.h5_tokenizer_states.specs.declared.machine_state.TextState.TheVariants as t
use Rattle.h5_tokenizer_states.specs.declared.machine_state.TagState.TheVariants as g
use Rattle.h5_tokenizer_states.specs.declared.machine_state.CommentState.TheVariants as c
use Rattle.h5_tokenizer_states.specs.declared.machine_state.DoctypeState.TheVariants as d
use Rattle.h5_tokenizer_states.specs.declared.machine_state.ReferenceState.TheVariants as r

abbrev pub is_wide : State → Bool
is_wide (s.Text kind) = true
is_wide (s.ScriptDataEscaped depth) = true
is_wide (s.ScriptDataEscapedDash depth) = true
is_wide (s.ScriptDataEscapedDashDash depth) = true
is_wide (s.TagName tag) = true
is_wide (s.AttributeName tag) = true
is_wide (s.AttributeValue value tag) = true
is_wide (s.BogusComment comment) = true
is_wide (s.Comment comment) = true
is_wide s.BeforeDoctypeName = true
is_wide (s.DoctypeName doctype) = true
is_wide (s.DoctypeIdentifier id quote doctype) = true
is_wide (s.BogusDoctype doctype) = true
is_wide state = false

pub wide_so : (state : MachineState) (parts : Parts) → takes_wide state ≡ is_wide (state_of state parts)
wide_so (at.Text (t.Text kind)) parts = refl
wide_so (at.Text state) parts = refl
wide_so (at.Tag g.TagName) parts = refl
wide_so (at.Tag state) parts = refl
wide_so (at.Comment c.Comment) parts = refl
wide_so (at.Comment state) parts = refl
wide_so (at.Doctype d.DoctypeName) parts = refl
wide_so (at.Doctype state) parts = refl
wide_so (at.Reference r.Decimal return_to) parts = refl
wide_so (at.Reference state return_to) parts = refl

pub record WideRow (row : Turn) : Type 0 where
  pub text : List ℕ
  pub state : State
  pub outcome : row.outcome ≡ Consumed text state
  pub wide : is_wide state ≡ true
  pub none : row.errors ≡ []

pub wide_row : (last : List ℕ) (state : State) (x : ℕ) → is_wide state ≡ true → 128 ≤ x → WideRow (turn references last state x)
wide_row last (s.Text kind.Data) x h w = record { text = x ∷ []; state = s.Text kind.Data; outcome = grind arith; wide = refl; none = grind arith }
wide_row last (s.Text kind.Rcdata) x h w = record { text = x ∷ []; state = s.Text kind.Rcdata; outcome = grind arith; wide = refl; none = grind arith }
wide_row last (s.Text kind.Rawtext) x h w = record { text = x ∷ []; state = s.Text kind.Rawtext; outcome = grind arith; wide = refl; none = grind arith }
wide_row last (s.Text kind.ScriptData) x h w = record { text = x ∷ []; state = s.Text kind.ScriptData; outcome = grind arith; wide = refl; none = grind arith }
wide_row last (s.Text kind.Plaintext) x h w = record { text = x ∷ []; state = s.Text kind.Plaintext; outcome = grind arith; wide = refl; none = grind arith }
wide_row last (s.Text kind.CdataSection) x h w = record { text = x ∷ []; state = s.Text kind.CdataSection; outcome = grind arith; wide = refl; none = grind arith }
wide_row last (s.ScriptDataEscaped depth) x h w = record { text = x ∷ []; state = s.ScriptDataEscaped depth; outcome = grind arith; wide = refl; none = grind arith }
wide_row last (s.ScriptDataEscapedDash depth) x h w = record { text = x ∷ []; state = s.ScriptDataEscaped depth; outcome = grind arith; wide = refl; none = grind arith }
wide_row last (s.ScriptDataEscapedDashDash depth) x h w = record { text = x ∷ []; state = s.ScriptDataEscaped depth; outcome = grind arith; wide = refl; none = grind arith }
wide_row last (s.TagName tag) x h w = record { text = []; state = s.TagName (named_further (to_ascii_lowercase x ∷ []) tag); outcome = grind arith; wide = refl; none = grind arith }
wide_row last (s.AttributeName tag) x h w = record { text = []; state = s.AttributeName (attribute_named_further (to_ascii_lowercase x ∷ []) tag); outcome = grind arith; wide = refl; none = grind arith }
wide_row last (s.AttributeValue (s.Quoted quote.Double) tag) x h w = record { text = []; state = s.AttributeValue (s.Quoted quote.Double) (value_further (x ∷ []) tag); outcome = grind arith; wide = refl; none = grind arith }
wide_row last (s.AttributeValue (s.Quoted quote.Single) tag) x h w = record { text = []; state = s.AttributeValue (s.Quoted quote.Single) (value_further (x ∷ []) tag); outcome = grind arith; wide = refl; none = grind arith }
wide_row last (s.AttributeValue s.Unquoted tag) x h w = record { text = []; state = s.AttributeValue s.Unquoted (value_further (x ∷ []) tag); outcome = grind arith; wide = refl; none = grind arith }
wide_row last (s.BogusComment comment) x h w = record { text = []; state = s.BogusComment (comment ++ (x ∷ [])); outcome = grind arith; wide = refl; none = grind arith }
wide_row last (s.Comment comment) x h w = record { text = []; state = s.Comment (comment ++ (x ∷ [])); outcome = grind arith; wide = refl; none = grind arith }
wide_row last s.BeforeDoctypeName x h w = record { text = []; state = s.DoctypeName (new_doctype (to_ascii_lowercase x ∷ [])); outcome = grind arith; wide = refl; none = grind arith }
wide_row last (s.DoctypeName doctype) x h w = record { text = []; state = s.DoctypeName (doctype_named_further (to_ascii_lowercase x ∷ []) doctype); outcome = grind arith; wide = refl; none = grind arith }
wide_row last (s.DoctypeIdentifier id quote.Double doctype) x h w = record { text = []; state = s.DoctypeIdentifier id quote.Double (identifier_further id (x ∷ []) doctype); outcome = grind arith; wide = refl; none = grind arith }
wide_row last (s.DoctypeIdentifier id quote.Single doctype) x h w = record { text = []; state = s.DoctypeIdentifier id quote.Single (identifier_further id (x ∷ []) doctype); outcome = grind arith; wide = refl; none = grind arith }
wide_row last (s.BogusDoctype doctype) x h w = record { text = []; state = s.BogusDoctype doctype; outcome = grind arith; wide = refl; none = grind arith }
wide_row last state x h w = absurd (false≢true h)
