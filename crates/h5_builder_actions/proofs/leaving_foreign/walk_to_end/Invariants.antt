use Rattle.std.proofs.Common.{◌≡◌, ◌≤◌, length}
use Rattle.h5_builder_spec.specs.stack.Scope.{cut_through}
use Rattle.h5_builder_spec.specs.insertion.Foreign.{is_named_in_any_case}
use Rattle.h5_builder_spec.specs.modes.ForeignContent.{search_end}
use Rattle.h5_builder_spec.specs.World.{names_of}
use Rattle.h5_builder_state.specs.View.{names_under, stack_under, world}
use Rattle.h5_builder_actions.proofs.leaving_foreign.walk_to_end.Given as goal

-- what is left gives what was to come at first
abbrev pub invariant-down : goal.invariant-down
invariant-down g l =
    let w = world g.S.TreeSink.sees g.S.TreeSink.node l.sink l.state in
    let names = names_under g.S.TreeSink.sees g.S.TreeSink.node l.sink l.state l.place in
    record {
      place : l.place ≤ length w.stack;
      left : search_end l.local names ≡ search_end l.local (names_of w);
      cut : cut_through (is_named_in_any_case l.local) names (stack_under g.S.TreeSink.node l.state l.place) ≡ cut_through (is_named_in_any_case l.local) (names_of w) w.stack;
    }

abbrev pub decreases-down : goal.decreases-down
decreases-down g l = l.place
