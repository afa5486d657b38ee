use Rattle.std.proofs.Common.{◌≡◌, ◌≤◌, length}
use Rattle.h5_builder_spec.specs.formatting.Adoption.{older_than}
use Rattle.h5_builder_spec.specs.stack.Order.{is_in}
use Rattle.h5_builder_state.specs.View.{stack_under, world}
use Rattle.h5_builder_state.proofs.find.find_among_all.Given as goal

-- what is left gives what was to come at first
abbrev pub invariant-down : goal.invariant-down
invariant-down g l =
    let w = world g.S.TreeSink.sees g.S.TreeSink.node l.sink l.state in
    let n = g.S.TreeSink.node l.handle in
    record {
      place : l.place ≤ length w.stack;
      left : is_in n (stack_under g.S.TreeSink.node l.state l.place) ≡ is_in n w.stack;
      older : older_than n (stack_under g.S.TreeSink.node l.state l.place) ≡ older_than n w.stack;
    }

abbrev pub decreases-down : goal.decreases-down
decreases-down g l = l.place
