use Rattle.std.proofs.Common.{◌≡◌, ◌≤◌, length}
use Rattle.h5_builder_spec.specs.formatting.FormattingList.{nodes_of}
use Rattle.h5_builder_spec.specs.stack.Order.{is_in}
use Rattle.h5_builder_state.specs.View.{world}
use Rattle.h5_builder_actions.specs.View.{list_under}
use Rattle.h5_builder_actions.proofs.EntryLaws.{Passed}
use Rattle.h5_builder_actions.proofs.find.find_entry.Given as goal

-- what is left gives what was to come at first
abbrev pub invariant-down : goal.invariant-down
invariant-down g l =
    let w = world g.S.TreeSink.sees g.S.TreeSink.node l.sink l.state in
    let n = g.S.TreeSink.node l.handle in
    record {
      place : l.place ≤ length w.formatting;
      left : is_in n (nodes_of (list_under g.S.TreeSink.node l.state l.place)) ≡ is_in n (nodes_of w.formatting);
      passed : Passed n w.formatting (list_under g.S.TreeSink.node l.state l.place);
    }

abbrev pub decreases-down : goal.decreases-down
decreases-down g l = l.place
