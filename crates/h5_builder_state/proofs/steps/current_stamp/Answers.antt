use Rattle.std.proofs.Common.{arith, subst, sym}
use Rattle.h5_interface.specs.Forest.{parent_of}
use Rattle.h5_builder_spec.proofs.entries.PassLaws.{ordered_distinct}
use Rattle.h5_builder_state.specs.Stamps.{IsAbove, stamps_of}
use Rattle.h5_builder_state.specs.View.{elements_of, open_node, world}
use Rattle.h5_builder_state.proofs.StackLaws.{first_of, seen_first}
use Rattle.h5_builder_state.proofs.StampLaws.{above_current, above_none}
use Rattle.h5_builder_state.proofs.steps.current_stamp.Goals as goal

pub returns-in-Some-clause-above : goal.returns-in-Some-clause-above
unfolding world
returns-in-Some-clause-above g c =
    let node = g.S.TreeSink.node in
    let w = world g.S.TreeSink.sees node c.args.sink.now c.args.state.now in
    let items = elements_of c.args.state.now in
    let x = c.in-Some.element.now in
    subst (λ n. IsAbove n c.min.result (stamps_of node c.args.state.now.open_elems)) (sym (first_of w.forest.document _ _ (seen_first (open_node node) items x c.in-Some.ensures)))
    (above_current node items x c.min.result c.in-Some.ensures (omega arith) (ordered_distinct (parent_of w.forest) w.stack c.requires.sound.stands.ordered))

pub returns-in-None-clause-above : goal.returns-in-None-clause-above
returns-in-None-clause-above g c = above_none _ (stamps_of g.S.TreeSink.node c.args.state.now.open_elems)
