use Rattle.std.proofs.Common.{◌≡◌, take, []}
use Rattle.h5_builder_spec.specs.Text.{all_blanks}
use Rattle.h5_builder_state.proofs.blanks.solid_len.Given as goal

abbrev pub invariant-loop-i : goal.invariant-loop-i
invariant-loop-i l = all_blanks (take l.i l.text) ≡ []
