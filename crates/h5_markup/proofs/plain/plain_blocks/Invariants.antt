use Rattle.std.proofs.Common.{◌≡◌, ℕ, true, ◌<◌, ◌≤◌, ◌-◌, length, get_or}
use Rattle.h5_markup.specs.Plain.{is_plain}
use Rattle.h5_markup.proofs.plain.plain_blocks.Given as goal

abbrev pub invariant-loop-n : goal.invariant-loop-n
invariant-loop-n l = record {
  within : l.n ≤ length l.bytes;
  plain : (k : ℕ) → k < l.n → is_plain (get_or l.bytes k 0) ≡ true;
}

abbrev pub decreases-loop-n : goal.decreases-loop-n
decreases-loop-n l = length l.bytes - l.n
