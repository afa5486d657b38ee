use Rattle.std.proofs.Common.{◌≡◌, ◌+◌, ◌-◌, ◌≤◌, length, map, reverse}
use Rattle.h5_builder_state.specs.View.{stack_under, world}
use Rattle.h5_builder_actions.proofs.StackPushLaws.{Carried}
use Rattle.h5_builder_actions.proofs.stack.push_newer.Given as goal

-- those up to a place were pushed
abbrev pub invariant-up : goal.invariant-up
invariant-up g l =
    let node = g.S.TreeSink.node in
    record {
      count : l.count ≡ length (world g.S.TreeSink.sees node l.sink l.state).stack;
      place : l.place ≤ l.count;
      pushed : Carried (stack_under node l.state (l.block + 1)) (stack_under node l.state l.place) (reverse (map node l.fn.handles.items)) (reverse (map node l.handles.items));
    }

abbrev pub decreases-up : goal.decreases-up
decreases-up g l = l.count - l.place
