use Rattle.std.proofs.Common.{◌≡◌, ◌++◌, string_bytes}
use Rattle.h5_print.specs.Nodes.{indent}
use Rattle.h5_print.proofs.nodes.print_indent.Given as goal

abbrev pub invariant-loop-level : goal.invariant-loop-level
invariant-loop-level l = string_bytes l.out ≡ string_bytes l.initial.out ++ indent l._level
