use Rattle.std.proofs.Common.{◌≡◌, ℕ, ◌<◌, not, get_or}
use Rattle.h5_encodings.specs.Cuts.{is_in}
use Rattle.h5_encodings.proofs.cut.first_index.Given as goal

abbrev pub invariant-loop-i : goal.invariant-loop-i
invariant-loop-i l = (k : ℕ) → k < l.i → is_in l.class (get_or l.bytes k 0) ≡ not l.wanted
