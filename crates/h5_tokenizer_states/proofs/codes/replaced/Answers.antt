use Rattle.std.proofs.Common.{◌-◌}
use Rattle.h5_tokenizer_states.proofs.CodeLaws.{changed, kept, replacement_is_low}
use Rattle.h5_tokenizer_states.proofs.codes.replaced.Goals as goal

pub returns-then-other-eq0-clause-value : goal.returns-then-other-eq0-clause-value
returns-then-other-eq0-clause-value c = kept c.args.code (c.args.code - 128) c.if-other-eq0.true

pub returns-else-other-eq0-clause-value : goal.returns-else-other-eq0-clause-value
returns-else-other-eq0-clause-value c = changed c.args.code (c.args.code - 128) c.if-other-eq0.false

pub returns-else-other-eq0-clause-low : goal.returns-else-other-eq0-clause-low
returns-else-other-eq0-clause-low c = replacement_is_low (c.args.code - 128)
