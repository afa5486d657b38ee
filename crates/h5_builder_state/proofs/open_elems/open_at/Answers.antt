use Rattle.std.proofs.Common.{◌<◌, length, ap, arith}
use Rattle.h5_builder_spec.specs.World.{names_of}
use Rattle.h5_builder_state.specs.View.{elements_of, open_node, world}
use Rattle.h5_builder_state.specs.declared.open_element.Summary.{Summary}
use Rattle.h5_builder_state.proofs.AttributeLaws.{open_length}
use Rattle.h5_builder_state.proofs.StackLaws.{element_at}
use Rattle.h5_builder_state.proofs.SummaryLaws.{kept_at}
use Rattle.h5_builder_state.proofs.open_elems.open_at.Goals as goal

pub returns-clause-element : goal.returns-clause-element
unfolding world
returns-clause-element g c = element_at (open_node g.S.TreeSink.node) (elements_of c.args.state.now) (g.S.TreeSink.sees c.args.sink.now).forest c.args.place c.get.result.now c.requires.sound.sound.stands.elements c.requires.place c.get.ensures

pub returns-clause-special : goal.returns-clause-special
unfolding world names_of
returns-clause-special g c =
    let items = (elements_of c.args.state.now) in
    let inner : c.args.place < length items = omega (arith, c.requires.place, open_length (open_node g.S.TreeSink.node) items) in
    ap (λ (s : Summary). s.special) (kept_at g.S.TreeSink.node (g.S.TreeSink.sees c.args.sink.now).forest items c.args.place c.get.result.now inner c.get.ensures c.requires.sound.kept.summarized)

pub returns-clause-implied : goal.returns-clause-implied
unfolding world names_of
returns-clause-implied g c =
    let items = (elements_of c.args.state.now) in
    let inner : c.args.place < length items = omega (arith, c.requires.place, open_length (open_node g.S.TreeSink.node) items) in
    ap (λ (s : Summary). s.implied) (kept_at g.S.TreeSink.node (g.S.TreeSink.sees c.args.sink.now).forest items c.args.place c.get.result.now inner c.get.ensures c.requires.sound.kept.summarized)
