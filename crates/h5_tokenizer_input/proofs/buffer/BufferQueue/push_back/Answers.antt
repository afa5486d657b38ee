use Rattle.std.proofs.Common.{arith, string_bytes}
use Rattle.std.proofs.lemmas.Grind.{common_steps}
use Rattle.std.proofs.lemmas.Str.{IsCharBoundary-start, IsUtf8-string_bytes}
use Rattle.h5_tokenizer_input.proofs.buffer.BufferQueue.push_back.Goals as goal

pub invariant_of-self : goal.invariant_of-self
invariant_of-self c = IsCharBoundary-start (string_bytes c.args.text) (IsUtf8-string_bytes c.args.text)

pub returns-clause-ok : goal.returns-clause-ok
returns-clause-ok c = grind (arith, common_steps)
