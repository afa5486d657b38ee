use Rattle.std.proofs.Common.{ap, arith, length, sym, ◌+◌, ◌-◌, ◌∙◌, ◌≡◌, ◌∷◌}
use Rattle.h5_builder_spec.proofs.entries.PairLaws.{is_in_telling, is_in_true}
use Rattle.h5_builder_state.specs.View.{stack_under, world}
use Rattle.h5_builder_state.proofs.FoundLaws.{found_first}
use Rattle.h5_builder_state.proofs.StackLaws.{open_is_node}
use Rattle.h5_builder_state.proofs.find.find_among_all.Goals as goal

pub same_node-requires-clause-x : goal.same_node-requires-clause-x
unfolding world
same_node-requires-clause-x g c =
    open_is_node (world g.S.TreeSink.sees g.S.TreeSink.node c.args.sink.now c.args.state.now) (g.S.TreeSink.node c.handle_at.result.now) c.requires.sound.sound c.handle_at.ensures.open

pub returns-then-same_node-clause-place : goal.returns-then-same_node-clause-place
returns-then-same_node-clause-place g c =
    let node = g.S.TreeSink.node in
    let n = node c.args.handle.now in
    let here : c.down.place ≡ c.down.place - 1 + 1 = omega (arith, c.down-test.true) in
    let left : stack_under node c.args.state.now c.down.place ≡ node c.handle_at.result.now ∷ stack_under node c.args.state.now (c.down.place - 1) =
    ap (stack_under node c.args.state.now) here ∙ c.handle_at.ensures.stack in
    let found = found_first n _ _ _ left (sym c.same_node.ensures ∙ c.if-same_node.true) in
    record {
      is_open = is_in_true n _ (sym c.down.invariant.left ∙ is_in_telling n _ found.0);
      here = sym c.handle_at.ensures.count ∙ ap length (sym found.1 ∙ c.down.invariant.older);
    }
