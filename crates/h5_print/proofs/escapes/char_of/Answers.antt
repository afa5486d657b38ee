use Rattle.std.proofs.Common.{rules}
use Rattle.h5_print.proofs.escapes.char_of.Goals as goal

pub returns-in-n : goal.returns-in-n
returns-in-n c = search rules
