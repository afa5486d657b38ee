use Rattle.std.proofs.Common.{◌≡◌, ◌-◌, ◌≤◌, List, drop, length}
use Rattle.h5_names.specs.declared.qualified.QualName.{QualName}
use Rattle.h5_builder_state.specs.Numbered.{numbers}
use Rattle.h5_builder_state.specs.Stamps.{AreStamped}
use Rattle.h5_builder_state.specs.Summaries.{all_open, summaries}
use Rattle.h5_builder_state.specs.View.{IsKeptOver, elements_of, kept_under, names_under, world}
use Rattle.h5_builder_state.proofs.renew.renew_over.Given as goal

-- the world is what it was, the summaries so far are right, and those from here on are over others
abbrev pub invariant-up : goal.invariant-up
invariant-up g l =
    let first = world g.S.TreeSink.sees g.S.TreeSink.node l.sink l.fn.state in
    record {
      count : l.count ≡ length first.stack;
      place : l.place ≤ l.count;
      world : world g.S.TreeSink.sees g.S.TreeSink.node l.sink l.state ≡ first;
      kept : kept_under l.state l.place ≡ summaries (names_under g.S.TreeSink.sees g.S.TreeSink.node l.sink l.state l.place);
      numbers : numbers l.state.open_elems.elements ≡ numbers l.fn.state.open_elems.elements;
      same : l.state.open_elems.numbers ≡ l.fn.state.open_elems.numbers;
      stamped : AreStamped g.S.TreeSink.node l.state.open_elems l.state.active_formatting;
      over : (older : List QualName) × (l.was ≡ all_open older) × (length older ≡ l.place) × IsKeptOver g.S.TreeSink.node (g.S.TreeSink.sees l.sink).forest (drop l.place (elements_of l.state)) older;
    }

abbrev pub decreases-up : goal.decreases-up
decreases-up g l = l.count - l.place
