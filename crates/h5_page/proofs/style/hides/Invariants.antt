use Rattle.std.proofs.Common.{◌≡◌, drop}
use Rattle.h5_page.specs.Styles as s
use Rattle.h5_page.proofs.style.hides.Given as goal

abbrev pub invariant-loop-byte : goal.invariant-loop-byte
invariant-loop-byte l = s.with_bytes (drop l.byte-index l.style) l.reader ≡ s.with_bytes l.style s.nothing_read
