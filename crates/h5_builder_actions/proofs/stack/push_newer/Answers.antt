use Rattle.std.proofs.Common.{ap, arith, map, reverse, ◌+◌, ◌∙◌, ◌∷◌, ◌≡◌}
use Rattle.h5_builder_state.specs.Steps.{world_of}
use Rattle.h5_builder_state.specs.View.{elements_of, open_node, stack_over, stack_under, world}
use Rattle.h5_builder_state.proofs.StackLaws.{seen_pushed}
use Rattle.h5_builder_state.proofs.SummaryLaws.{cut_in_two}
use Rattle.h5_builder_actions.proofs.NodeLaws.{open_nodes}
use Rattle.h5_builder_actions.proofs.StackPushLaws.{carried_all, carried_more}
use Rattle.h5_builder_actions.proofs.stack.push_newer.Goals as goal

pub clone_handle-requires : goal.clone_handle-requires
unfolding world
clone_handle-requires g c = open_nodes (world_of g.S.TreeSink c.args.sink.now c.args.state.now) c.requires.sound.sound (g.S.TreeSink.node c.handle_at.result.now) c.handle_at.ensures.open

pub up-preserved : goal.up-preserved
up-preserved g c =
    let node = g.S.TreeSink.node in
    record {
      count = c.up.invariant.count;
      place = omega (arith, c.up-test.true);
      pushed = carried_more _ _ _ _ _ _ (node c.handle_at.result.now) c.handle_at.ensures.stack
          (seen_pushed node _ _ _ c.in_ok-push.ensures.items ∙ ap (λ n. n ∷ reverse (map node c.up.handles.items)) c.clone_handle.ensures) c.up.invariant.pushed;
    }

pub returns : goal.returns
unfolding world stack_over stack_under
returns g c =
    let node = g.S.TreeSink.node in
    let state = c.args.state.now in
    let count = c.args.block + 1 in
    let all : stack_under node state c.up.place ≡ _ = ap (stack_under node state) (omega (arith, c.up-test.false, c.up.invariant.place)) ∙ c.open_count-count.ensures.stack in
    carried_all _ _ _ _ (stack_over node state count) c.up.invariant.pushed (all ∙ cut_in_two (open_node node) (elements_of state) count)
