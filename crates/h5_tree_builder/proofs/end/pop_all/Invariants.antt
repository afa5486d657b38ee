use Rattle.std.proofs.Common.{◌≡◌, [], length}
use Rattle.h5_builder_state.specs.Steps.{IsSound}
use Rattle.h5_builder_state.specs.View.{world}
use Rattle.h5_tree_builder.specs.Builder.{all_popped}
use Rattle.h5_tree_builder.proofs.end.pop_all.Given as goal

abbrev pub invariant-elements : goal.invariant-elements
invariant-elements g l =
    let w = world g.S.TreeSink.sees g.S.TreeSink.node l.sink l.state in
    let first = world g.S.TreeSink.sees g.S.TreeSink.node l.fn.sink l.fn.state in
    record {
      sound : IsSound g.S.TreeSink l.sink l.state;
      still : first.stack ≡ [] → (l.sink ≡ l.fn.sink) × (l.state ≡ l.fn.state);
      rest : all_popped g.S.TreeSink.choices w ≡ all_popped g.S.TreeSink.choices first;
      quiet : (g.S.TreeSink.sees l.sink).errors ≡ (g.S.TreeSink.sees l.fn.sink).errors;
    }

abbrev pub decreases-elements : goal.decreases-elements
decreases-elements g l = length (world g.S.TreeSink.sees g.S.TreeSink.node l.sink l.state).stack
