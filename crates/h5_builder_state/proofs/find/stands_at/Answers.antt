use Rattle.std.proofs.Common.{ap, sym, ◌+◌, ◌++◌, ◌∙◌, ◌∷◌, ◌≡◌}
use Rattle.h5_interface.specs.Forest.{parent_of}
use Rattle.h5_builder_spec.proofs.entries.PassLaws.{ordered_distinct}
use Rattle.h5_builder_state.specs.View.{elements_of, open_node, stack_over, stack_under, world}
use Rattle.h5_builder_state.proofs.FoundLaws.{found_at}
use Rattle.h5_builder_state.proofs.SeenLaws.{seen_cut}
use Rattle.h5_builder_state.proofs.StackLaws.{open_is_node}
use Rattle.h5_builder_state.proofs.find.stands_at.Goals as goal

pub same_node-requires-clause-x : goal.same_node-requires-clause-x
unfolding world
same_node-requires-clause-x g c =
    open_is_node (world g.S.TreeSink.sees g.S.TreeSink.node c.args.sink.now c.args.state.now) (g.S.TreeSink.node c.handle_at.result.now) c.requires.sound.sound c.handle_at.ensures.open

pub returns-clause-here : goal.returns-clause-here
unfolding world stack_over stack_under
returns-clause-here g c = λ is.
    let node = g.S.TreeSink.node in
    let w = world g.S.TreeSink.sees node c.args.sink.now c.args.state.now in
    let place = c.args.place in
    let m = node c.handle_at.result.now in
    let newer = stack_over node c.args.state.now (place + 1) in
    let cut : w.stack ≡ newer ++ m ∷ stack_under node c.args.state.now place = seen_cut (open_node node) (elements_of c.args.state.now) (place + 1) ∙ ap (λ s. newer ++ s) c.handle_at.ensures.stack in
    let found = found_at (node c.args.handle.now) m place w.stack newer _ (ordered_distinct (parent_of w.forest) w.stack c.requires.sound.sound.stands.ordered) cut c.handle_at.ensures.count (sym c.same_node.ensures ∙ is) in
    record { is_open = found.0; here = found.1 }
