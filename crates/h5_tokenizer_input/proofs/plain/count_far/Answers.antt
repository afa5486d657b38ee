use Rattle.std.proofs.Common.{◌+◌, arith}
use Rattle.h5_tokenizer_input.proofs.PlainParts.{ArePlain, joined, at_most}
use Rattle.h5_tokenizer_input.proofs.plain.count_far.Goals as goal
use Rattle.h5_tokenizer_input.proofs.plain.count_far.Goals.{After-count_bytes-m}

front : (c : After-count_bytes-m) → ArePlain c.args.bytes.now c.count_blocks-n.result.0 c.count_blocks-n.result.1
front c = record { within = c.count_blocks-n.ensures.within; plain = c.count_blocks-n.ensures.plain; counted = c.count_blocks-n.ensures.lines }

back : (c : After-count_bytes-m) → ArePlain c.split_at.result.1.now c.count_bytes-m.result.0 c.count_bytes-m.result.1
back c = record { within = c.count_bytes-m.ensures.within; plain = c.count_bytes-m.ensures.plain; counted = c.count_bytes-m.ensures.lines }

both : (c : After-count_bytes-m) → ArePlain c.args.bytes.now (c.count_blocks-n.result.0 + c.count_bytes-m.result.0) (c.count_blocks-n.result.1 + c.count_bytes-m.result.1)
both c = joined c.args.bytes.now c.split_at.result.1.now c.count_blocks-n.result.0 c.count_bytes-m.result.0 c.count_blocks-n.result.1 c.count_bytes-m.result.1 c.split_at.ensures.back (front c) (back c)

pub overflow_add-result-2 : goal.overflow_add-result-2
overflow_add-result-2 c =
    let b = (goal.at.overflow_add-result-2 c).After-count_bytes-m in
    omega (arith, at_most _ _ _ (both b), (both b).within)

pub returns-clause-plain : goal.returns-clause-plain
returns-clause-plain c = (both (goal.at.returns-clause-plain c).After-count_bytes-m).plain

pub returns-clause-lines : goal.returns-clause-lines
returns-clause-lines c = (both (goal.at.returns-clause-lines c).After-count_bytes-m).counted
