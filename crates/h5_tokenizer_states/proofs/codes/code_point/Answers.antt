use Rattle.h5_tokenizer_states.proofs.CodeLaws.{at_null}
use Rattle.h5_tokenizer_states.proofs.codes.code_point.Goals as goal

pub returns-then-code-eq0 : goal.returns-then-code-eq0
returns-then-code-eq0 c = at_null c.args.code c.if-code-eq0.true
