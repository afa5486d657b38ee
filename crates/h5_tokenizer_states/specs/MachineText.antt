-- A machine, and what it does with the current byte and with a run.
use Rattle.std.specs.Prelude.{◌≡◌, ℕ, Bool, true, false, List, ◌++◌, ◌⊎◌}
use Rattle.h5_tokenizer_spec.specs.declared.kinds.TextKind.{TextKind}
use Rattle.h5_tokenizer_spec.specs.declared.kinds.TextKind.TheVariants.{CdataSection, Data}
use Rattle.h5_tokenizer_spec.specs.declared.errors.ParseError.TheVariants.{CdataInHtmlContent}
use Rattle.h5_tokenizer_spec.specs.States.{State, Text, MarkupDeclarationOpen}
use Rattle.h5_tokenizer_spec.specs.Turn.{Outcome, Consumed, Reconsumed, Emitted, Asks}
use Rattle.h5_tokenizer_spec.specs.ReferenceTable.{references}
use Rattle.h5_tokenizer_spec.specs.Reading.{ReaderPlace, outcome, is_dropped, behind, behind_newline, in_state, Passes}
use Rattle.h5_tokenizer_states.specs.Parts.{Parts}
use Rattle.h5_tokenizer_states.specs.StateOf.{state_of}
use Rattle.h5_tokenizer_states.specs.OutcomeOf.{made_of}
use Rattle.h5_tokenizer_states.specs.declared.machine_state.MachineState.{MachineState}
use Rattle.h5_tokenizer_states.specs.declared.machine_state.MachineState.TheVariants as at
use Rattle.h5_tokenizer_states.specs.declared.machine_state.TextState.TheVariants as text
use Rattle.h5_tokenizer_states.specs.declared.transition.CurrentToken.{CurrentToken}
use Rattle.h5_tokenizer_states.specs.declared.machine.Step.{Step}
use Rattle.h5_tokenizer_states.specs.declared.machine.Step.TheVariants as taken

-- a state, what is being built, and lines
pub record MachineText : Type 0 where
  pub at : MachineState
  pub parts : Parts
  pub last : List ℕ
  pub after_return : Bool
  pub line : ℕ
  pub began : ℕ

-- the place of a reading, in the definition's terms
abbrev pub place_of : MachineText → ReaderPlace
place_of m = record {
  state = state_of m.at m.parts;
  last = m.last;
  after_return = m.after_return;
  line = m.line;
  began = m.began;
}

-- a byte was consumed, and this text was emitted
pub record Consumes (m : MachineText) (x : ℕ) (old new : List ℕ) (n : MachineText) : Type 0 where
  pub text : List ℕ
  pub state : State
  pub not_dropped : is_dropped (place_of m) x ≡ false
  pub outcome : outcome references (place_of m) x ≡ Consumed text state
  pub place : place_of n ≡ behind x state (place_of m)
  pub put : new ≡ old ++ text

-- a LINE FEED after a CARRIAGE RETURN was skipped
pub record Drops (m : MachineText) (x : ℕ) (old new : List ℕ) (n : MachineText) : Type 0 where
  pub dropped : is_dropped (place_of m) x ≡ true
  pub place : place_of n ≡ behind_newline (place_of m)
  pub put : new ≡ old

-- a text was emitted, and the byte is still current
pub record Reconsumes (m : MachineText) (x : ℕ) (old new : List ℕ) (n : MachineText) : Type 0 where
  pub text : List ℕ
  pub state : State
  pub not_dropped : is_dropped (place_of m) x ≡ false
  pub outcome : outcome references (place_of m) x ≡ Reconsumed text state
  pub place : place_of n ≡ in_state state (place_of m)
  pub put : new ≡ old ++ text

-- a byte was consumed, and a token is complete, which began in this line; a text follows
pub record Completes (m : MachineText) (x : ℕ) (old new : List ℕ) (n : MachineText) (construct : CurrentToken) (told : ℕ) : Type 0 where
  pub kind : TextKind
  pub at : n.at ≡ at.Text (text.Text kind)
  pub not_dropped : is_dropped (place_of m) x ≡ false
  pub outcome : outcome references (place_of m) x ≡ Emitted (made_of construct n.parts) (Text kind)
  pub place : place_of n ≡ behind x (Text kind) (place_of m)
  pub line : told ≡ m.began
  pub put : new ≡ old

-- a byte was consumed, and the adjusted current node must be checked; until then the state is that for the HTML namespace
pub record Wonders (m : MachineText) (x : ℕ) (old new : List ℕ) (n : MachineText) : Type 0 where
  pub elsewhere : State
  pub not_dropped : is_dropped (place_of m) x ≡ false
  pub outcome : outcome references (place_of m) x ≡ Asks (Text CdataSection) CdataInHtmlContent elsewhere
  pub place : place_of n ≡ behind x elsewhere (place_of m)
  pub put : new ≡ old

abbrev pub Takes : MachineText → ℕ → List ℕ → List ℕ → MachineText → Step → Type 0
Takes m x old new n taken.Consumed = Consumes m x old new n ⊎ Drops m x old new n
Takes m x old new n taken.Reconsumed = Reconsumes m x old new n
Takes m x old new n (taken.Emitted construct line) = Completes m x old new n construct line
Takes m x old new n taken.Asks = Wonders m x old new n

-- From `xs` up to `ys`, bytes were passed that emit a text, which was appended to `old`.
pub record PassesRun (m : MachineText) (xs old new : List ℕ) (n : MachineText) (ys : List ℕ) : Type 0 where
  pub text : List ℕ
  pub passes : Passes references (place_of m) xs text (place_of n) ys
  pub put : new ≡ old ++ text

-- a byte neither emits a token nor requires a check of the adjusted current node
abbrev pub IsQuiet : Outcome → Type 0
IsQuiet (Consumed text state) = Unit {0}
IsQuiet (Reconsumed text state) = Unit {0}
IsQuiet (Emitted token state) = ⊥
IsQuiet (Asks there error elsewhere) = ⊥

-- states in which a NUL is emitted
abbrev pub hands_null : State → Bool
hands_null (Text Data) = true
hands_null (Text CdataSection) = true
hands_null state = false

-- states in which a '[' may require a check of the adjusted current node
abbrev pub asks_in : State → Bool
asks_in (MarkupDeclarationOpen seen) = true
asks_in state = false
