use Rattle.std.proofs.Common.{◌≡◌, length}
use Rattle.h5_builder_spec.specs.insertion.Foreign.{leave_foreign_content}
use Rattle.h5_builder_state.specs.Steps.{IsSound}
use Rattle.h5_builder_state.specs.View.{world}
use Rattle.h5_builder_actions.proofs.leaving_foreign.leave_foreign_content.Given as goal

abbrev pub invariant-left : goal.invariant-left
invariant-left g l =
    let w = world g.S.TreeSink.sees g.S.TreeSink.node l.sink l.state in
    let first = world g.S.TreeSink.sees g.S.TreeSink.node l.fn.sink l.fn.state in
    record {
      sound : IsSound g.S.TreeSink l.sink l.state;
      quiet : (g.S.TreeSink.sees l.sink).errors ≡ (g.S.TreeSink.sees l.fn.sink).errors;
      left : leave_foreign_content g.S.TreeSink.choices w ≡ leave_foreign_content g.S.TreeSink.choices first;
    }

abbrev pub decreases-left : goal.decreases-left
decreases-left g l = length (world g.S.TreeSink.sees g.S.TreeSink.node l.sink l.state).stack
