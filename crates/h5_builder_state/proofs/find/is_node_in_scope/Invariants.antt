use Rattle.std.proofs.Common.{◌≡◌, ◌≤◌, length}
use Rattle.h5_builder_spec.specs.stack.Scope.{node_in_scope}
use Rattle.h5_tables.specs.TagSets.{is_default_scope}
use Rattle.h5_builder_spec.specs.World.{names_of}
use Rattle.h5_builder_state.specs.View.{names_under, stack_under, world}
use Rattle.h5_builder_state.proofs.find.is_node_in_scope.Given as goal

-- what is left gives what was to come at first
abbrev pub invariant-down : goal.invariant-down
invariant-down g l =
    let w = world g.S.TreeSink.sees g.S.TreeSink.node l.sink l.state in
    let n = g.S.TreeSink.node l.handle in
    record {
      place : l.place ≤ length w.stack;
      left : node_in_scope n is_default_scope (names_under g.S.TreeSink.sees g.S.TreeSink.node l.sink l.state l.place) (stack_under g.S.TreeSink.node l.state l.place)
          ≡ node_in_scope n is_default_scope (names_of w) w.stack;
    }

abbrev pub decreases-down : goal.decreases-down
decreases-down g l = l.place
