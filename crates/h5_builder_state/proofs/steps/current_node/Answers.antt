use Rattle.std.proofs.Common.{ap, map, reverse, subst, sym, ◌∙◌}
use Rattle.h5_interface.specs.Forest.{IsNode}
use Rattle.h5_interface.proofs.ForestLaws.{document_is_node}
use Rattle.h5_builder_spec.specs.stack.Order.{first_or}
use Rattle.h5_builder_state.specs.View.{elements_of, open_node, world}
use Rattle.h5_builder_state.proofs.StackLaws.{first_in, first_of, last_none, open_is_node, seen_first}
use Rattle.h5_builder_state.proofs.steps.current_node.Goals as goal

pub clone_handle-requires : goal.clone_handle-requires
unfolding world
clone_handle-requires g c =
    let w = world g.S.TreeSink.sees g.S.TreeSink.node c.args.sink.now c.args.state.now in
    let n = g.S.TreeSink.node c.in-Some.element.now.handle in
    open_is_node w n c.requires.sound (first_in w.stack n (seen_first (open_node g.S.TreeSink.node) (elements_of c.args.state.now) c.in-Some.element.now c.in-Some.ensures))

pub returns-in-Some-clause-current : goal.returns-in-Some-clause-current
unfolding world
returns-in-Some-clause-current g c =
    let document = (g.S.TreeSink.sees c.args.sink.now).forest.document in
    c.clone_handle.ensures ∙ sym (first_of document _ _ (seen_first (open_node g.S.TreeSink.node) (elements_of c.args.state.now) c.in-Some.element.now c.in-Some.ensures))

pub returns-in-Some-clause-node : goal.returns-in-Some-clause-node
unfolding world
returns-in-Some-clause-node g c =
    let w = world g.S.TreeSink.sees g.S.TreeSink.node c.args.sink.now c.args.state.now in
    let n = g.S.TreeSink.node c.in-Some.element.now.handle in
    subst (IsNode w.forest) (sym c.clone_handle.ensures)
    (open_is_node w n c.requires.sound (first_in w.stack n (seen_first (open_node g.S.TreeSink.node) (elements_of c.args.state.now) c.in-Some.element.now c.in-Some.ensures)))

pub returns-in-None-clause-current : goal.returns-in-None-clause-current
unfolding world
returns-in-None-clause-current g c =
    let document = (g.S.TreeSink.sees c.args.sink.now).forest.document in
    c.get_document.ensures.document ∙ sym (ap (λ xs. first_or document (reverse (map (open_node g.S.TreeSink.node) xs))) (last_none (elements_of c.args.state.now) c.in-None.ensures))

pub returns-in-None-clause-node : goal.returns-in-None-clause-node
returns-in-None-clause-node g c =
    let f = (g.S.TreeSink.sees c.args.sink.now).forest in
    subst (IsNode f) (sym c.get_document.ensures.document) (document_is_node f c.get_document.ensures.is_forest)
