use Rattle.std.proofs.Common.{ap, arith, codes, sym, ◌∙◌}
use Rattle.h5_tables.specs.TagSets.{is_html_named}
use Rattle.h5_builder_spec.specs.World.{names_of}
use Rattle.h5_builder_state.proofs.ItemLaws.{length-values}
use Rattle.h5_builder_state.specs.View.{elements_of, open_node, world}
use Rattle.h5_builder_state.proofs.AttributeLaws.{open_length}
use Rattle.h5_builder_state.proofs.StackLaws.{element_at, named, second_named, second_none}
use Rattle.h5_builder_state.proofs.open_elems.has_body_second.Goals as goal

pub elem_name-requires : goal.elem_name-requires
unfolding world
elem_name-requires g c =
    let items = elements_of c.args.state.now in
    element_at (open_node g.S.TreeSink.node) items (g.S.TreeSink.sees c.args.sink.now).forest 1 c.get.result.now c.requires.sound.stands.elements
    (omega (arith, open_length (open_node g.S.TreeSink.node) items, length-values c.args.state.now.open_elems.elements, c.if-len-gt1.true, c.len.ensures.count)) c.get.ensures

pub returns-then-len-gt1 : goal.returns-then-len-gt1
unfolding world names_of
returns-then-len-gt1 g c =
    let f = (g.S.TreeSink.sees c.args.sink.now).forest in
    c.is_html_known.ensures
    ∙ ap (is_html_named (codes "body")) (sym (named f (g.S.TreeSink.node c.get.result.now.handle) c.elem_name.result.now c.elem_name.ensures))
    ∙ sym (second_named (open_node g.S.TreeSink.node) f (codes "body") (elements_of c.args.state.now) c.get.result.now
    (omega (arith, c.if-len-gt1.true, c.len.ensures.count, length-values c.args.state.now.open_elems.elements)) c.get.ensures)

pub returns-else-len-gt1 : goal.returns-else-len-gt1
unfolding world names_of
returns-else-len-gt1 g c =
    sym (second_none (open_node g.S.TreeSink.node) (g.S.TreeSink.sees c.args.sink.now).forest (codes "body") (elements_of c.args.state.now)
    (omega (arith, c.if-len-gt1.false, c.len.ensures.count, length-values c.args.state.now.open_elems.elements)))
