use Rattle.std.proofs.Common.{ℕ, ◌-◌, ◌<◌, ◌≤◌}
use Rattle.h5_tokenizer_states.specs.Numbered.{name_of}
use Rattle.h5_tokenizer_states.specs.Candidates.{IsRising, key_at}
use Rattle.h5_tokenizer_states.proofs.candidates.Candidates.first_from.Given as goal

-- what is left is between two indices
pub record LiesBetween (depth from low high to least : ℕ) : Type 0 where
  pub begun : from ≤ low
  pub ordered : low ≤ high
  pub ended : high ≤ to
  pub below : IsRising depth from to → (k : ℕ) → from ≤ k → k < low → key_at (name_of k) depth < least
  pub above : IsRising depth from to → (k : ℕ) → high ≤ k → k < to → least ≤ key_at (name_of k) depth

abbrev pub invariant-loop-low : goal.invariant-loop-low
invariant-loop-low l = LiesBetween l.depth l.fn.self.from l.low l.high l.fn.self.to l.least

abbrev pub decreases-loop-low : goal.decreases-loop-low
decreases-loop-low l = l.high - l.low
