use Rattle.std.proofs.Common.{◌≡◌, ◌++◌, drop, string_bytes}
use Rattle.h5_encodings.specs.Said.{isomorphic}
use Rattle.h5_encodings.proofs.said.isomorphic.Given as goal

-- what was written and what is left are the whole
abbrev pub invariant-loop-byte : goal.invariant-loop-byte
invariant-loop-byte l = string_bytes l.text ++ isomorphic (drop l.byte-index l.bytes) ≡ isomorphic l.bytes
