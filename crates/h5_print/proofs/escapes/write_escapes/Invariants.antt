use Rattle.std.proofs.Common.{◌≡◌, ◌++◌, string_bytes}
use Rattle.std.specs.Str.Iter.{chars_rest}
use Rattle.h5_print.specs.Escapes.{escape}
use Rattle.h5_print.proofs.escapes.write_escapes.Given as goal

abbrev pub invariant-loop-c : goal.invariant-loop-c
invariant-loop-c l = string_bytes l.out ++ escape (chars_rest l.c-iterator) ≡ string_bytes l.initial.out ++ escape l.text
