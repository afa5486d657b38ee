use Rattle.std.proofs.Common.{◌≡◌, ◌≤◌, ◌-◌, Some, length, take}
use Rattle.h5_markup.specs.Ending.{walk}
use Rattle.h5_markup.proofs.ending.find_end.Given as goal

abbrev pub invariant-loop-n : goal.invariant-loop-n
invariant-loop-n l = record {
  within : l.n ≤ length l.bytes;
  walked : walk l.fn.place (take l.n l.bytes) ≡ Some l.now;
}

abbrev pub decreases-loop-n : goal.decreases-loop-n
decreases-loop-n l = length l.bytes - l.n
