use Rattle.std.proofs.Common.{◌≡◌, take, [], IsCharBoundary}
use Rattle.h5_builder_spec.specs.Blanks.{rest_of}
use Rattle.h5_builder_state.proofs.blanks.blank_len.Given as goal

abbrev pub invariant-loop-i : goal.invariant-loop-i
invariant-loop-i l = record { boundary : IsCharBoundary l.text l.i; blank : rest_of (take l.i l.text) ≡ [] }
