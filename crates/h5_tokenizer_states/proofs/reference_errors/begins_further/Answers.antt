use Rattle.h5_tokenizer_states.proofs.FurtherLaws.{none_further, one_further}
use Rattle.h5_tokenizer_states.proofs.reference_errors.begins_further.Goals as goal

pub returns-then-further_len-eq0 : goal.returns-then-further_len-eq0
returns-then-further_len-eq0 c = none_further c.args.seen.now c.as_bytes.result.now c.args.b c.further_len.result c.as_bytes.ensures.value c.if-further_len-eq0.true c.further_len.ensures.longest

pub returns : goal.returns
returns c = one_further c.args.seen.now c.as_bytes.result.now c.args.b c.further_len.result c.as_bytes.ensures.value c.further_len.ensures.within c.if-further_len-eq0.false c.further_len.ensures.some
