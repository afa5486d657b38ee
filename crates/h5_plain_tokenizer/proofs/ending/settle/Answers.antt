use Rattle.std.proofs.Common.{rules}
use Rattle.h5_plain_tokenizer.proofs.ending.settle.Goals as goal

pub returns-in-Open : goal.returns-in-Open
returns-in-Open c = search rules
