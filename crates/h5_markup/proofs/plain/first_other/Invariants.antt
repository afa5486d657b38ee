use Rattle.std.proofs.Common.{◌≡◌, ℕ, true, ◌<◌, get_or}
use Rattle.h5_markup.specs.Plain.{is_plain}
use Rattle.h5_markup.proofs.plain.first_other.Given as goal

abbrev pub invariant-loop-i : goal.invariant-loop-i
invariant-loop-i l = (k : ℕ) → k < l.i → is_plain (get_or l.bytes k 0) ≡ true
