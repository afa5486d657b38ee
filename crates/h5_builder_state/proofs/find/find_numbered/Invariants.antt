use Rattle.h5_builder_state.specs.View.{world}
use Rattle.h5_builder_state.proofs.ChainLaws.{Walks}
use Rattle.h5_builder_state.proofs.find.find_numbered.Given as goal

-- what is left gives what was to come at first
abbrev pub invariant-down : goal.invariant-down
invariant-down g l =
    let w = world g.S.TreeSink.sees g.S.TreeSink.node l.sink l.state in
    Walks g.S.TreeSink.node l.state.open_elems (g.S.TreeSink.node l.handle) l.number w.stack l.next

abbrev pub decreases-down : goal.decreases-down
decreases-down g l = l.next
