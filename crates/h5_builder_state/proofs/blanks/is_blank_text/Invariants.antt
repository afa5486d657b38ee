use Rattle.std.proofs.Common.{◌≡◌, drop}
use Rattle.h5_builder_spec.specs.Blanks.{all_blank}
use Rattle.h5_builder_state.proofs.blanks.is_blank_text.Given as goal

abbrev pub invariant-loop-b : goal.invariant-loop-b
invariant-loop-b l = all_blank (drop l.b-index l.b-items) ≡ all_blank l.text
