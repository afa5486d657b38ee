use Rattle.std.proofs.Common.{rules}
use Rattle.h5_plain_tokenizer.proofs.tokens.is_self_closing.Goals as goal

pub returns-then-ends_in_slash : goal.returns-then-ends_in_slash
returns-then-ends_in_slash c = search rules

pub returns-else-ends_in_slash : goal.returns-else-ends_in_slash
returns-else-ends_in_slash c = search rules
