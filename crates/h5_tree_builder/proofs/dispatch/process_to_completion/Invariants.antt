use Rattle.std.proofs.Common.{◌≡◌, ◌<◌, ◌≤◌, ◌+◌, ◌-◌, length}
use Rattle.h5_tables.specs.TurnText.{turn_text}
use Rattle.h5_builder_spec.specs.inner.Kept.{Fits}
use Rattle.h5_builder_laws.proofs.turns.FallsLaws.{rank_of}
use Rattle.h5_builder_state.specs.Steps.{IsSound}
use Rattle.h5_builder_state.specs.View.{world}
use Rattle.h5_tree_builder.specs.Chains.{Left}
use Rattle.h5_tree_builder.proofs.dispatch.process_to_completion.Given as goal

-- what is left of the chain gives what was to come at first
abbrev pub invariant-turns : goal.invariant-turns
invariant-turns g l =
    let w = world g.S.TreeSink.sees g.S.TreeSink.node l.sink l.state in
    let first = world g.S.TreeSink.sees g.S.TreeSink.node l.fn.sink l.fn.state in
    let t = turn_text l.fn.token in
    record {
      sound : IsSound g.S.TreeSink l.sink l.state;
      fits : Fits w;
      same : turn_text l.rest ≡ t;
      some : 0 < l.turns;
      few : l.turns + rank_of t w ≤ 17 + length first.stack;
      left : Left g.S.TreeSink.choices t first w (g.S.TreeSink.sees l.fn.sink).errors (g.S.TreeSink.sees l.sink).errors (l.turns - 1);
    }

abbrev pub decreases-turns : goal.decreases-turns
decreases-turns g l = rank_of (turn_text l.fn.token) (world g.S.TreeSink.sees g.S.TreeSink.node l.sink l.state)
