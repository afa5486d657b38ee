use Rattle.std.proofs.Common.{◌≡◌}
use Rattle.h5_builder_spec.specs.formatting.AdoptionAgency.{adopt_within}
use Rattle.h5_builder_spec.specs.inner.Kept.{HasHtmlRoot}
use Rattle.h5_builder_state.specs.Steps.{IsSound, errors_of, world_of}
use Rattle.h5_builder_actions.proofs.agency.rounds.Given as goal

-- the rounds that are left give what all were to give
abbrev pub invariant-rounds : goal.invariant-rounds
invariant-rounds g l =
    let w = world_of g.S.TreeSink l.sink l.state in
    record {
      sound : IsSound g.S.TreeSink l.sink l.state;
      ready : HasHtmlRoot w;
      quiet : errors_of g.S.TreeSink l.sink ≡ errors_of g.S.TreeSink l.fn.sink;
      left : adopt_within l.left g.S.TreeSink.choices l.name w ≡ adopt_within 8 g.S.TreeSink.choices l.name (world_of g.S.TreeSink l.fn.sink l.fn.state);
    }

abbrev pub decreases-rounds : goal.decreases-rounds
decreases-rounds g l = l.left
