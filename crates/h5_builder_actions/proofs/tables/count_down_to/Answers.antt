use Rattle.std.proofs.Common.{sym, ◌∙◌}
use Rattle.h5_builder_spec.specs.World.{names_of}
use Rattle.h5_builder_spec.proofs.changes.PopLaws.{names_length}
use Rattle.h5_builder_state.specs.Steps.{world_of}
use Rattle.h5_builder_state.proofs.NewestLaws.{above_newest}
use Rattle.h5_builder_actions.proofs.tables.count_down_to.Goals as goal

pub returns : goal.returns
returns g c =
    let w = world_of g.S.TreeSink c.args.sink.now c.args.state.now in
    c.newest.ensures ∙ sym (above_newest (g.Is.NameTest.holds c.args.is.now) (names_of w) w.stack (names_length w))
