use Rattle.std.proofs.Common.{◌≡◌, ◌-◌, ◌≤◌, length}
use Rattle.h5_builder_state.specs.Numbered.{numbers}
use Rattle.h5_builder_state.specs.Stamps.{AreStamped}
use Rattle.h5_builder_state.specs.Summaries.{summaries}
use Rattle.h5_builder_state.specs.View.{names_under, world}
use Rattle.h5_builder_state.specs.View.{kept_under}
use Rattle.h5_builder_state.proofs.renew.renew_from.Given as goal

-- the world is what it was, and the summaries so far are right
abbrev pub invariant-up : goal.invariant-up
invariant-up g l =
    let first = world g.S.TreeSink.sees g.S.TreeSink.node l.sink l.fn.state in
    record {
      count : l.count ≡ length first.stack;
      place : l.place ≤ l.count;
      world : world g.S.TreeSink.sees g.S.TreeSink.node l.sink l.state ≡ first;
      kept : kept_under l.state l.place ≡ summaries (names_under g.S.TreeSink.sees g.S.TreeSink.node l.sink l.state l.place);
      numbers : numbers l.state.open_elems.elements ≡ numbers l.fn.state.open_elems.elements;
      same : l.state.open_elems.numbers ≡ l.fn.state.open_elems.numbers;
      stamped : AreStamped g.S.TreeSink.node l.state.open_elems l.state.active_formatting;
    }

abbrev pub decreases-up : goal.decreases-up
decreases-up g l = l.count - l.place
