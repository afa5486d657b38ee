use Rattle.std.proofs.Common.{◌≡◌, length}
use Rattle.h5_encodings.specs.Cuts.{behind}
use Rattle.h5_encodings.proofs.cut.behind.Given as goal

-- the remaining bytes have the result of all bytes
abbrev pub invariant-loop-more : goal.invariant-loop-more
invariant-loop-more l = behind l.word l.unread ≡ behind l.word l.bytes

abbrev pub decreases-loop-more : goal.decreases-loop-more
decreases-loop-more l = length l.unread
