-- What holds at every moment, after a step.
use Rattle.std.proofs.Common.{◌≡◌, sym, subst}
use Rattle.h5_interface.specs.SinkChoices.{Rearranges}
use Rattle.h5_interface.specs.declared.sink.TreeSink.{Ghosts}
use Rattle.h5_builder_spec.specs.Sound.{Sound}
use Rattle.h5_builder_spec.specs.World.{World, names_of}
use Rattle.h5_builder_spec.proofs.changes.NameLaws.{names_kept}
use Rattle.h5_builder_spec.proofs.changes.SoundLaws.{all_rearranged}
use Rattle.h5_builder_state.specs.Steps.{IsSound, world_of}
use Rattle.h5_builder_state.specs.Summaries.{IsKept}
use Rattle.h5_builder_state.specs.View.{world}
use Rattle.h5_builder_state.specs.declared.state.State.{State}

-- a forest was rearranged, as each call of a sink does that leaves open elements
pub sound_rearranged : {S H O : Type 0} (law : Ghosts S H O) (old new : S) (state : State H) → IsSound law old state → Rearranges (law.sees old).forest (law.sees new).forest → IsSound law new state
unfolding world names_of
sound_rearranged law old new state k r = record {
  sound = all_rearranged _ _ _ k.sound r;
  kept = subst (IsKept state.open_elems) (sym (names_kept (world_of law old state) (law.sees new).forest k.sound r)) k.kept;
  stamped = k.stamped;
}

-- the sink changed, except for what is seen of it
pub sound_told : {S H O : Type 0} (law : Ghosts S H O) (old new : S) (state : State H) → world_of law new state ≡ world_of law old state → IsSound law old state → IsSound law new state
sound_told law old new state e k = record { sound = subst Sound (sym e) k.sound; kept = subst (λ (w : World). IsKept state.open_elems (names_of w)) (sym e) k.kept; stamped = k.stamped }
