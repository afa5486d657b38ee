use Rattle.std.proofs.Common.{◌≡◌}
use Rattle.h5_builder_state.specs.Steps.{IsSound}
use Rattle.h5_builder_state.specs.View.{world}
use Rattle.h5_builder_actions.proofs.StayLaws.{RestBelow}
use Rattle.h5_builder_actions.proofs.reconstruct.count_staying.Given as goal

-- the world is what it was, and no entry from this place on stays
abbrev pub invariant-rewind : goal.invariant-rewind
invariant-rewind g l =
    let w = world g.S.TreeSink.sees g.S.TreeSink.node l.fn.sink l.fn.state in
    record {
      world : world g.S.TreeSink.sees g.S.TreeSink.node l.sink l.state ≡ w;
      stack : l.state.open_elems ≡ l.fn.state.open_elems;
      sound : IsSound g.S.TreeSink l.sink l.state;
      below : RestBelow w.stack w.formatting l.place;
    }

abbrev pub decreases-rewind : goal.decreases-rewind
decreases-rewind g l = l.place
