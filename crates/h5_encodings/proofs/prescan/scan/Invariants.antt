use Rattle.std.proofs.Common.{◌≡◌, drop}
use Rattle.h5_encodings.specs.Prescan.{scan}
use Rattle.h5_encodings.proofs.prescan.scan.Given as goal

-- the remaining bytes have the result of all bytes
abbrev pub invariant-loop-at : goal.invariant-loop-at
invariant-loop-at l = scan l.skipped (drop l.at l.bytes) ≡ scan 0 l.bytes
