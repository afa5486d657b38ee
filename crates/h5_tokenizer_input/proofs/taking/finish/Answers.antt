use Rattle.std.proofs.Common.{rules}
use Rattle.h5_tokenizer_input.proofs.taking.finish.Goals as goal

pub returns : goal.returns
returns g c = search rules
