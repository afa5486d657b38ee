use Rattle.std.proofs.Common.{◌≡◌, ◌-◌, length, get_or, ap, codes, map, sym, ◌∙◌, arith}
use Rattle.std.proofs.lemmas.List.{length-map, length-reverse}
use Rattle.h5_tables.specs.TagSets.{is_html_named}
use Rattle.h5_builder_spec.specs.World.{names_of}
use Rattle.h5_builder_state.proofs.ItemLaws.{length-values}
use Rattle.h5_builder_state.specs.View.{elements_of, open_node, world}
use Rattle.h5_builder_state.proofs.StackLaws.{element_at, named}
use Rattle.h5_builder_actions.proofs.FramesetLaws.{below_named}
use Rattle.h5_builder_actions.proofs.frameset.is_below_frameset.Goals as goal

pub elem_name-requires : goal.elem_name-requires
unfolding world
elem_name-requires g c =
    let node = open_node g.S.TreeSink.node in
    let items = (elements_of c.args.state.now) in
    element_at node items (g.S.TreeSink.sees c.args.sink.now).forest (c.len-count.result - 2) c.get-below.result.now c.requires.sound.stands.elements
    (omega (arith, length-reverse (map node items), length-map items node, c.if-count-gt1.true, c.len-count.ensures.count, length-values c.args.state.now.open_elems.elements)) c.get-below.ensures

pub returns-then-count-gt1 : goal.returns-then-count-gt1
unfolding world names_of
returns-then-count-gt1 g c =
    let f = (g.S.TreeSink.sees c.args.sink.now).forest in
    let items = (elements_of c.args.state.now) in
    let below = c.get-below.result.now in
    let place : c.len-count.result - 2 ≡ length items - 2 = omega (arith, c.len-count.ensures.count, length-values c.args.state.now.open_elems.elements) in
    c.is_html_known.ensures
    ∙ ap (is_html_named (codes "frameset")) (sym (named f (g.S.TreeSink.node below.handle) c.elem_name.result.now c.elem_name.ensures))
    ∙ sym (below_named (open_node g.S.TreeSink.node) f items below (omega (arith, c.if-count-gt1.true, c.len-count.ensures.count, length-values c.args.state.now.open_elems.elements)) (c.get-below.ensures ∙ ap (λ k. get_or items k below) place))
