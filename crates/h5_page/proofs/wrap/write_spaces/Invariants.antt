use Rattle.std.proofs.Common.{◌≡◌, ◌++◌, string_bytes}
use Rattle.h5_page.specs.Wrapped as s
use Rattle.h5_page.proofs.wrap.write_spaces.Given as goal

abbrev pub invariant-loop-place : goal.invariant-loop-place
invariant-loop-place w = string_bytes w.line ≡ string_bytes w.initial.line ++ s.spaces w._place
