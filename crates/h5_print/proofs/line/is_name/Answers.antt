use Rattle.std.proofs.Common.{rules}
use Rattle.h5_print.proofs.line.is_name.Goals as goal

pub returns-then-not-is_empty : goal.returns-then-not-is_empty
returns-then-not-is_empty c = search rules
