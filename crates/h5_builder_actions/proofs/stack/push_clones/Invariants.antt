use Rattle.std.proofs.Common.{◌≡◌, ◌++◌, ◌≤◌, drop, length, map, reverse}
use Rattle.h5_builder_actions.proofs.stack.push_clones.Given as goal

-- those from a place on were pushed
abbrev pub invariant-down : goal.invariant-down
invariant-down g l =
    let node = g.S.TreeSink.node in
    record {
      left : l.left ≤ length l.clones.items;
      pushed : reverse (map node l.handles.items) ≡ map node (drop l.left l.clones.items) ++ reverse (map node l.fn.handles.items);
    }

abbrev pub decreases-down : goal.decreases-down
decreases-down g l = l.left
