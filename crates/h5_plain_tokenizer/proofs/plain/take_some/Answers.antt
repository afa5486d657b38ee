use Rattle.std.proofs.Common.{rules}
use Rattle.h5_plain_tokenizer.proofs.plain.take_some.Goals as goal

pub returns : goal.returns
returns c = search rules
