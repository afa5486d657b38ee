use Rattle.std.proofs.Common.{◌≡◌, length}
use Rattle.h5_builder_spec.specs.Changes.{pop_while}
use Rattle.h5_builder_spec.specs.World.{World, names_of}
use Rattle.h5_builder_state.specs.Steps.{IsSound}
use Rattle.h5_builder_state.specs.View.{world}
use Rattle.h5_builder_state.proofs.open_elems.pop_while.Given as goal

-- what is left gives what was to come at first
abbrev pub invariant-passing : goal.invariant-passing
invariant-passing g l =
    let w = world g.S.TreeSink.sees g.S.TreeSink.node l.sink l.state in
    let first = world g.S.TreeSink.sees g.S.TreeSink.node l.fn.sink l.fn.state in
    let popped = λ (v : World). pop_while g.S.TreeSink.choices (g.Is.NameTest.holds l.is) (names_of v) v in
    record {
      sound : IsSound g.S.TreeSink l.sink l.state;
      quiet : (g.S.TreeSink.sees l.sink).errors ≡ (g.S.TreeSink.sees l.fn.sink).errors;
      left : popped w ≡ popped first;
    }

abbrev pub decreases-passing : goal.decreases-passing
decreases-passing g l = length (world g.S.TreeSink.sees g.S.TreeSink.node l.sink l.state).stack
