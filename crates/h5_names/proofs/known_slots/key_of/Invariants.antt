use Rattle.std.proofs.Common.{◌≡◌, ◌<◌, reverse, take}
use Rattle.h5_names.specs.ShortNames.{AreBytes, packed}
use Rattle.h5_names.proofs.ShortNameLemmas.{limit}
use Rattle.h5_names.proofs.known_slots.key_of.Given as goal

abbrev pub invariant-loop-byte : goal.invariant-loop-byte
invariant-loop-byte l = record {
  value : l.key ≡ packed (reverse (take l.byte-index l.bytes));
  bytes : AreBytes (reverse (take l.byte-index l.bytes));
  below : l.key < limit l.byte-index;
}
