use Rattle.std.proofs.Common.{arith, sym, ◌∙◌}
use Rattle.h5_builder_spec.specs.World.{names_of}
use Rattle.h5_builder_spec.proofs.changes.PopLaws.{names_length}
use Rattle.h5_builder_state.specs.Steps.{world_of}
use Rattle.h5_modes_rest.proofs.EndTagLaws.{few_expected, many_expected}
use Rattle.h5_modes_rest.proofs.end_tags.is_expected_end.Goals as goal

pub returns-then-open_count-gt1 : goal.returns-then-open_count-gt1
returns-then-open_count-gt1 g c =
    let w = world_of g.S.TreeSink c.args.sink.now c.args.state.now in
    c.is_current_in_any_case.ensures ∙ many_expected c.args.local.now (names_of w) (omega (arith, c.if-open_count-gt1.true, c.open_count.ensures.count, names_length w))

pub returns-else-open_count-gt1 : goal.returns-else-open_count-gt1
returns-else-open_count-gt1 g c =
    let w = world_of g.S.TreeSink c.args.sink.now c.args.state.now in
    sym (few_expected c.args.local.now (names_of w) (omega (arith, c.if-open_count-gt1.false, c.open_count.ensures.count, names_length w)))
