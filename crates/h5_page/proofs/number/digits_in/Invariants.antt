use Rattle.std.proofs.Common.{◌≡◌, drop}
use Rattle.h5_page.specs.Numbers as n
use Rattle.h5_page.proofs.number.digits_in.Given as goal

abbrev pub invariant-loop-byte : goal.invariant-loop-byte
invariant-loop-byte l = n.digits_in l.size (drop l.byte-index l.text) ≡ n.digits_in 0 l.text
