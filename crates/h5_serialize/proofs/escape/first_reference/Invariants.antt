use Rattle.std.proofs.Common.{◌-◌, ◌≤◌, length}
use Rattle.h5_serialize.specs.Places.{IsPlainBefore}
use Rattle.h5_serialize.proofs.escape.first_reference.Given as goal

abbrev pub invariant-loop-from : goal.invariant-loop-from
invariant-loop-from l = record {
  within : l.from ≤ length l.bytes;
  plain : IsPlainBefore l.attr_mode l.bytes l.from;
}

abbrev pub decreases-loop-from : goal.decreases-loop-from
decreases-loop-from l = length l.bytes - l.from
