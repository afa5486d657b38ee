use Rattle.std.proofs.Common.{◌≡◌, ◌++◌, map, reverse}
use Rattle.std.specs.Vec.Iter.{into_iter_items}
use Rattle.h5_builder_state.specs.Steps.{IsSound}
use Rattle.h5_builder_state.specs.View.{stack_under, with_stack, world}
use Rattle.h5_builder_actions.proofs.stack.reopen.Given as goal

-- what is left comes on top of what stands there
abbrev pub invariant-loop-handle : goal.invariant-loop-handle
invariant-loop-handle g l =
    let node = g.S.TreeSink.node in
    let w = world g.S.TreeSink.sees node l.sink l.state in
    record {
      sound : IsSound g.S.TreeSink l.sink l.state;
      world : w ≡ with_stack w.stack (world g.S.TreeSink.sees node l.sink l.fn.state);
      left : reverse (map node (into_iter_items l.handle-iterator)) ++ w.stack ≡ reverse (map node l.fn.handles.items) ++ stack_under node l.fn.state l.place;
    }
