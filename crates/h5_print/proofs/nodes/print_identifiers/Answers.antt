use Rattle.std.proofs.Common.{rules}
use Rattle.h5_print.proofs.nodes.print_identifiers.Goals as goal

pub returns-then-is_empty-2 : goal.returns-then-is_empty-2
returns-then-is_empty-2 c = search rules
