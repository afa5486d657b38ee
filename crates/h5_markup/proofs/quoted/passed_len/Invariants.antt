use Rattle.std.proofs.Common.{◌≡◌, ◌≤◌, ◌-◌, Some, length, take}
use Rattle.h5_markup.specs.Ending.{walk}
use Rattle.h5_markup.specs.declared.ending.Inside.TheVariants.{BeforeAttributeName}
use Rattle.h5_markup.proofs.quoted.passed_len.Given as goal

abbrev pub invariant-attributes : goal.invariant-attributes
invariant-attributes l = record {
  within : l.n ≤ length l.bytes;
  walked : walk BeforeAttributeName (take l.n l.bytes) ≡ Some BeforeAttributeName;
}

abbrev pub decreases-attributes : goal.decreases-attributes
decreases-attributes l = length l.bytes - l.n
