use Rattle.std.proofs.Common.{◌≡◌, ◌≤◌, length}
use Rattle.h5_builder_spec.specs.formatting.FormattingList.{nodes_of}
use Rattle.h5_builder_spec.specs.stack.Order.{is_in}
use Rattle.h5_builder_state.specs.View.{world}
use Rattle.h5_builder_actions.specs.View.{list_under}
use Rattle.h5_builder_actions.proofs.questions.is_listed.Given as goal

-- the element is listed where it is below a place
abbrev pub invariant-down : goal.invariant-down
invariant-down g l =
    let node = g.S.TreeSink.node in
    let n = node l.handle in
    record {
      place : l.place ≤ length l.state.active_formatting;
      left : is_in n (nodes_of (list_under node l.state l.place)) ≡ is_in n (nodes_of (world g.S.TreeSink.sees node l.sink l.state).formatting);
    }

abbrev pub decreases-down : goal.decreases-down
decreases-down g l = l.place
