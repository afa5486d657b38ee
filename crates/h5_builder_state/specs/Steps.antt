-- Steps of a rule, as contracts describe them. `law` is the law of the sink: what a sink shows, which node a handle
-- names, and what the sink chooses.
use Rattle.std.specs.Prelude.{◌≡◌, ◌<◌, ◌≤◌, ℕ, length, Result, OnOk}
use Rattle.h5_interface.specs.declared.sink.TreeSink.{Ghosts}
use Rattle.h5_builder_spec.specs.Rows.{Change, apply}
use Rattle.h5_builder_spec.specs.Sound.{Sound}
use Rattle.h5_builder_spec.specs.World.{World, names_of}
use Rattle.h5_builder_state.specs.Stamps.{AreStamped}
use Rattle.h5_builder_state.specs.Summaries.{IsKept}
use Rattle.h5_builder_state.specs.View.{world}
use Rattle.h5_builder_state.specs.declared.state.State.{State}

-- the world of a sink and a state
abbrev pub world_of : {S H O : Type 0} → Ghosts S H O → S → State H → World
world_of law sink state = world law.sees law.node sink state

-- the mark of reported parse errors
abbrev pub errors_of : {S H O : Type 0} → Ghosts S H O → S → ℕ
errors_of law sink = (law.sees sink).errors

-- what holds at every moment: the world is sound, what is stored with the open elements is right for their names, and
-- the stamps are right
pub record IsSound {S H O : Type 0} (law : Ghosts S H O) (sink : S) (state : State H) : Type 0 where
  pub sound : Sound (world_of law sink state)
  pub kept : IsKept state.open_elems (names_of (world_of law sink state))
  pub stamped : AreStamped law.node state.open_elems state.active_formatting

-- the state is sound, and an element is open
pub record IsOpen {S H O : Type 0} (law : Ghosts S H O) (sink : S) (state : State H) : Type 0 where
  pub sound : IsSound law sink state
  pub some : 0 < length (world_of law sink state).stack

-- the world becomes the result of a function, no parse error is reported, and the state is sound
pub record Becomes {S H O : Type 0} (law : Ghosts S H O) (change : World → World) (old_sink : S) (old_state : State H) (new_sink : S) (new_state : State H) : Type 0 where
  pub world : world_of law new_sink new_state ≡ change (world_of law old_sink old_state)
  pub quiet : errors_of law new_sink ≡ errors_of law old_sink
  pub sound : IsSound law new_sink new_state

-- as `Becomes`, if the result is `Ok`; the state is sound in any case
pub record BecomesIfOk {S H O T E : Type 0} (law : Ghosts S H O) (change : World → World) (old_sink : S) (old_state : State H) (new_sink : S) (new_state : State H) (result : Result T E) : Type 0 where
  pub world : OnOk result (world_of law new_sink new_state ≡ change (world_of law old_sink old_state))
  pub quiet : errors_of law new_sink ≡ errors_of law old_sink
  pub sound : IsSound law new_sink new_state

-- this change is made
abbrev pub Makes : {S H O : Type 0} → Ghosts S H O → Change → S → State H → S → State H → Type 0
Makes law change old_sink old_state new_sink new_state = Becomes law (apply law.choices change) old_sink old_state new_sink new_state

abbrev pub MakesIfOk : {S H O T E : Type 0} → Ghosts S H O → Change → S → State H → S → State H → Result T E → Type 0
MakesIfOk law change old_sink old_state new_sink new_state result = BecomesIfOk law (apply law.choices change) old_sink old_state new_sink new_state result

-- nothing changes except, possibly, the mark of parse errors, which doesn't decrease
pub record TellsErrors {S H O : Type 0} (law : Ghosts S H O) (old_sink new_sink : S) (state : State H) : Type 0 where
  pub world : world_of law new_sink state ≡ world_of law old_sink state
  pub rises : errors_of law old_sink ≤ errors_of law new_sink
  pub sound : IsSound law old_sink state → IsSound law new_sink state
