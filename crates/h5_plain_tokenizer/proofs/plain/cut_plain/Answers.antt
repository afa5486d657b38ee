use Rattle.std.proofs.Common.{[], sym, ◌∙◌, arith}
use Rattle.h5_markup.proofs.PlainBytes.{cut_plain}
use Rattle.h5_tokenizer_input.proofs.LineLaws.{passed_by}
use Rattle.h5_plain_tokenizer.proofs.PlainLaws.{some_plain}
use Rattle.h5_plain_tokenizer.proofs.plain.cut_plain.Goals as goal

pub split_at-requires : goal.split_at-requires
split_at-requires c = cut_plain c.args.text.now c.count_plain-n.result.0 c.count_plain-n.result.0 c.utf8.text (omega arith) c.count_plain-n.ensures.within c.count_plain-n.ensures.stops (omega arith)

pub returns-clause-begins : goal.returns-clause-begins
returns-clause-begins c = λ mode last foreign. some_plain {mode = mode} {last = last} foreign c.args.text.now c.split_at.result.1.now [] c.split_at.result.0.now c.count_plain-n.result.0 (omega arith) c.count_plain-n.ensures.within c.count_plain-n.ensures.plain c.split_at.ensures.front c.split_at.ensures.back

pub returns-clause-lines : goal.returns-clause-lines
returns-clause-lines c = c.count_plain-n.ensures.lines ∙ sym (passed_by c.args.text.now c.split_at.result.1.now c.count_plain-n.result.0 c.count_plain-n.ensures.within c.split_at.ensures.back)
