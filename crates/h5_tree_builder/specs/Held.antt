-- The fields of a tree builder: its sink, its state, that it has ended or failed, and the turns of the last token.
use Rattle.std.specs.Prelude.{◌≡◌, ℕ, Bool, true, false, []}
use Rattle.h5_interface.specs.Seen.{Seen}
use Rattle.h5_interface.specs.declared.sink.TreeSink.{Ghosts}
use Rattle.h5_builder_spec.specs.inner.Kept.{Fits, HasLists}
use Rattle.h5_builder_state.specs.Steps.{IsSound, world_of}
use Rattle.h5_builder_state.specs.View.{world}
use Rattle.h5_builder_state.specs.declared.state.State.{State}
use Rattle.h5_tree_builder.specs.Builder.{Building}

pub record Held (S H : Type 0) : Type 0 where
  pub sink : S
  pub state : State H
  pub ended : Bool
  pub failed : Bool
  pub turns : ℕ

-- what holds at every moment, also after a failed allocation; if none failed, the list of active formatting elements
-- agrees with the open elements, also after the end
pub record IsKept {S H O : Type 0} (law : Ghosts S H O) (h : Held S H) : Type 0 where
  pub sound : IsSound law h.sink h.state
  pub fits : h.failed ≡ false → h.ended ≡ false → Fits (world_of law h.sink h.state)
  pub lists : h.failed ≡ false → HasLists (world_of law h.sink h.state)
  pub closed : h.ended ≡ true → (world_of law h.sink h.state).stack ≡ []

-- the fields as contracts see them
abbrev pub building : {S H : Type 0} → (S → Seen) → (H → ℕ) → Held S H → Building
building sees node h = record {
  view = record { world = world sees node h.sink h.state; ended = h.ended; failed = h.failed };
  turns = h.turns;
  errors = (sees h.sink).errors;
}
