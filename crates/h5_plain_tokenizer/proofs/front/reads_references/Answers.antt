use Rattle.std.proofs.Common.{rules}
use Rattle.h5_plain_tokenizer.proofs.front.reads_references.Goals as goal

pub returns-in-Rawtext : goal.returns-in-Rawtext
returns-in-Rawtext c = search rules
