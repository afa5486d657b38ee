use Rattle.std.proofs.Common.{false, refl, sym}
use Rattle.h5_builder_spec.specs.World.{names_of}
use Rattle.h5_builder_state.specs.View.{world}
use Rattle.h5_builder_state.proofs.NewestLaws.{newest_never}
use Rattle.h5_builder_state.proofs.name_test.NothingNewestTest.newest.Goals as goal

pub returns : goal.returns
returns g c = sym (newest_never (λ n. false) (λ n. refl) (names_of (world g.S.TreeSink.sees g.S.TreeSink.node c.args._sink.now c.args._state.now)))
