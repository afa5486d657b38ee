use Rattle.std.proofs.Common.{◌≤◌}
use Rattle.h5_markup.proofs.attributes.likely_count.Given as goal

abbrev pub invariant-loop-b : goal.invariant-loop-b
invariant-loop-b l = l.count ≤ l.b-index
