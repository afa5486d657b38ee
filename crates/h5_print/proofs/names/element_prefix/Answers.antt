use Rattle.std.proofs.Common.{rules}
use Rattle.h5_print.proofs.names.element_prefix.Goals as goal

pub returns-then-eq : goal.returns-then-eq
returns-then-eq c = search rules
