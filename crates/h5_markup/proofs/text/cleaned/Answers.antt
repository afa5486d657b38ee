use Rattle.std.proofs.Common.{rules}
use Rattle.h5_markup.proofs.text.cleaned.Goals as goal

pub returns-in-0 : goal.returns-in-0
returns-in-0 c = search rules
