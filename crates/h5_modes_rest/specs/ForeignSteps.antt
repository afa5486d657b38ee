-- Steps of a token in foreign content, as contracts describe them.
use Rattle.std.specs.Prelude.{◌≡◌, ◌<◌, ℕ, Bool, true, false, List, Result, IfOk}
use Rattle.std.specs.declared.alloc.AllocError.{AllocError}
use Rattle.h5_interface.specs.SinkChoices.{SinkChoices}
use Rattle.h5_interface.specs.declared.sink.TreeSink.{Ghosts}
use Rattle.h5_tables.specs.TurnResult.{TurnResult}
use Rattle.h5_tables.specs.TurnText.{TurnText, turn_text}
use Rattle.h5_tables.specs.declared.turns.Token.{Token}
use Rattle.h5_builder_spec.specs.modes.ForeignContent.{ByMode, ForeignStep, HasRow, foreign_step}
use Rattle.h5_builder_spec.specs.Rows.{Change, Follows, Row, apply_all}
use Rattle.h5_builder_spec.specs.World.{World}
use Rattle.h5_builder_state.specs.Steps.{IsSound, errors_of, world_of}
use Rattle.h5_builder_state.specs.Turn.{turn_result}
use Rattle.h5_builder_state.specs.declared.state.State.{State}
use Rattle.h5_modes_rest.specs.declared.step.ForeignStep.{ForeignStep as Came}
use Rattle.h5_modes_rest.specs.declared.step.ForeignStep.TheVariants as came

-- the token has a row, and the turn followed it
pub record EndedBy {H : Type 0} (choices : SinkChoices) (node : H → ℕ) (step : ForeignStep) (t : TurnText) (old new : World) (old_errors new_errors : ℕ) (result : TurnResult H) : Type 0 where
  pub row : Row
  pub is : step ≡ HasRow row
  pub follows : Follows choices node row t old new old_errors new_errors result

-- the token is left to the rules of the current mode, after these changes, with a parse error or quietly
pub record LeftToMode (choices : SinkChoices) (step : ForeignStep) (t : TurnText) (old new : World) (old_errors new_errors : ℕ) (again : Token) : Type 0 where
  pub changes : List Change
  pub is_quiet : Bool
  pub is : step ≡ ByMode is_quiet changes
  pub quiet : is_quiet ≡ true → new_errors ≡ old_errors
  pub noted : is_quiet ≡ false → 0 < new_errors
  pub world : new ≡ apply_all choices changes old
  pub token : turn_text again ≡ t

abbrev pub CameTo : {H : Type 0} → SinkChoices → (H → ℕ) → ForeignStep → TurnText → (old new : World) → (old_errors new_errors : ℕ) → State H → Came → Type 0
CameTo choices node step t old new old_errors new_errors state (came.Ended result) = EndedBy choices node step t old new old_errors new_errors (turn_result result state)
CameTo choices node step t old new old_errors new_errors state (came.ByMode again) = LeftToMode choices step t old new old_errors new_errors again

-- a token took this step, if no allocation failed; the state is sound in any case
pub record Steps {S H O : Type 0} (law : Ghosts S H O) (step : World → ForeignStep) (t : TurnText) (old_sink : S) (old_state : State H) (new_sink : S) (new_state : State H) (result : Result Came AllocError) : Type 0 where
  pub came : IfOk result (λ r. CameTo law.choices law.node (step (world_of law old_sink old_state)) t (world_of law old_sink old_state) (world_of law new_sink new_state) (errors_of law old_sink) (errors_of law new_sink) new_state r)
  pub sound : IsSound law new_sink new_state

-- the step of a token in foreign content
abbrev pub StepsForeign : {S H O : Type 0} → Ghosts S H O → TurnText → S → State H → S → State H → Result Came AllocError → Type 0
StepsForeign law t old_sink old_state new_sink new_state result = Steps law (foreign_step t) t old_sink old_state new_sink new_state result
