use Rattle.std.proofs.Common.{◌≤◌}
use Rattle.h5_selectors.specs.Waiting.{size_of}
use Rattle.h5_selectors.proofs.selector.+asks_alone.Given as goal

abbrev pub decreases-asks_alone : goal.decreases-asks_alone
decreases-asks_alone l = size_of l.formula.now

abbrev pub invariant-further : goal.invariant-further
invariant-further l = size_of l.at ≤ size_of l.formula

abbrev pub decreases-further : goal.decreases-further
decreases-further l = size_of l.at
