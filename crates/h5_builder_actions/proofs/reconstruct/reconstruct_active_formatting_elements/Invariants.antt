use Rattle.std.proofs.Common.{◌≡◌}
use Rattle.h5_builder_state.specs.Steps.{IsSound, errors_of}
use Rattle.h5_builder_state.specs.View.{world}
use Rattle.h5_builder_actions.proofs.RenewLaws.{IsPartly}
use Rattle.h5_builder_actions.proofs.reconstruct.reconstruct_active_formatting_elements.Given as goal

-- the entries up to this place have elements that are open
abbrev pub invariant-loop-place : goal.invariant-loop-place
invariant-loop-place g l = record {
  sound : IsSound g.S.TreeSink l.sink l.state;
  quiet : errors_of g.S.TreeSink l.sink ≡ errors_of g.S.TreeSink l.fn.sink;
  partly : IsPartly g.S.TreeSink.choices (world g.S.TreeSink.sees g.S.TreeSink.node l.fn.sink l.fn.state) l.place (world g.S.TreeSink.sees g.S.TreeSink.node l.sink l.state);
}
