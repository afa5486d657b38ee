use Rattle.std.proofs.Common.{ap, nat_lt, ◌∙◌}
use Rattle.h5_builder_spec.specs.World.{names_of}
use Rattle.h5_builder_state.specs.View.{world}
use Rattle.h5_builder_state.proofs.SummaryLaws.{some_template}
use Rattle.h5_builder_state.proofs.open_elems.has_open_template.Goals as goal

pub returns : goal.returns
returns g c = ap (nat_lt 0) c.open_templates.ensures ∙ some_template (names_of (world g.S.TreeSink.sees g.S.TreeSink.node c.args.sink.now c.args.state.now))
