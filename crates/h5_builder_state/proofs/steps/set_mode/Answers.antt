use Rattle.std.proofs.Common.{rules}
use Rattle.h5_builder_spec.specs.World.{names_of}
use Rattle.h5_builder_state.specs.View.{world}
use Rattle.h5_builder_state.proofs.steps.set_mode.Goals as goal

pub returns : goal.returns
unfolding world names_of
returns g c = record { world = search rules; quiet = search rules; sound = search rules }
