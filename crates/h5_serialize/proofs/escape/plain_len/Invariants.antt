use Rattle.h5_serialize.specs.Places.{IsPlainBefore}
use Rattle.h5_serialize.proofs.escape.plain_len.Given as goal

abbrev pub invariant-loop-i : goal.invariant-loop-i
invariant-loop-i l = IsPlainBefore l.attr_mode l.bytes l.i
