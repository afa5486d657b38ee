use Rattle.std.proofs.Common.{ap, map, reverse, subst, sym, ◌∙◌}
use Rattle.h5_interface.specs.Forest.{IsNode}
use Rattle.h5_builder_spec.proofs.changes.SoundLaws.{root_is_node}
use Rattle.h5_builder_spec.specs.stack.Order.{last_or}
use Rattle.h5_builder_state.specs.View.{elements_of, open_node, world}
use Rattle.h5_builder_state.proofs.StackLaws.{first_none, seen_root}
use Rattle.h5_builder_state.proofs.open_elems.root_node.Goals as goal

pub clone_handle-requires : goal.clone_handle-requires
unfolding world
clone_handle-requires g c =
    let w = world g.S.TreeSink.sees g.S.TreeSink.node c.args.sink.now c.args.state.now in
    subst (IsNode w.forest) (seen_root (open_node g.S.TreeSink.node) w.forest.document (elements_of c.args.state.now) c.in-Some.element.now c.in-Some.ensures) (root_is_node w c.requires.sound)

pub returns-in-Some : goal.returns-in-Some
unfolding world
returns-in-Some g c =
    c.clone_handle.ensures ∙ sym (seen_root (open_node g.S.TreeSink.node) (g.S.TreeSink.sees c.args.sink.now).forest.document (elements_of c.args.state.now) c.in-Some.element.now c.in-Some.ensures)

pub returns-in-None : goal.returns-in-None
unfolding world
returns-in-None g c =
    let document = (g.S.TreeSink.sees c.args.sink.now).forest.document in
    c.get_document.ensures.document ∙ sym (ap (λ xs. last_or document (reverse (map (open_node g.S.TreeSink.node) xs))) (first_none (elements_of c.args.state.now) c.in-None.ensures))
