use Rattle.std.proofs.Common.{◌<◌, ap, arith, length, sym, ◌∙◌}
use Rattle.std.proofs.Common.{Some}
use Rattle.h5_builder_spec.specs.World.{names_of}
use Rattle.h5_builder_state.specs.View.{elements_of, names_under, open_node, world}
use Rattle.h5_builder_state.proofs.AttributeLaws.{open_length}
use Rattle.h5_builder_state.proofs.SummaryLaws.{number_of_place}
use Rattle.h5_builder_state.proofs.open_elems.number_at.Goals as goal

pub returns : goal.returns
unfolding world names_of names_under
returns g c = λ name older e.
    let node = g.S.TreeSink.node in
    let elements = elements_of c.args.state.now in
    let inside : c.args.place < length elements = omega (arith, c.requires.place, open_length (open_node node) elements) in
    number_of_place node (g.S.TreeSink.sees c.args.sink.now).forest c.args.state.now.open_elems c.args.place name older inside e c.requires.sound.kept ∙ ap (λ n. Some n) (sym c.number_at.ensures)
