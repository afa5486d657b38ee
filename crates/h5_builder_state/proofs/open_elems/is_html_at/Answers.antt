use Rattle.std.proofs.Common.{ap, map, ◌∙◌}
use Rattle.h5_builder_spec.specs.World.{name_in}
use Rattle.h5_builder_state.specs.View.{names_under, stack_under}
use Rattle.h5_builder_state.proofs.NumberLaws.{tells_html}
use Rattle.h5_builder_state.proofs.open_elems.is_html_at.Goals as goal

pub returns : goal.returns
unfolding names_under stack_under
returns g c = λ n older e.
    let f = (g.S.TreeSink.sees c.args.sink.now).forest in
    c.is_html.ensures
    ∙ tells_html c.args.state.now.open_elems.numbers (name_in f n) c.number_at.result (c.number_at.ensures (name_in f n) (map (name_in f) older) (ap (map (name_in f)) e))
