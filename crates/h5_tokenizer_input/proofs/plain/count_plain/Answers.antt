use Rattle.std.proofs.Common.{◌≡◌, ◌+◌, drop, subst, arith}
use Rattle.h5_tokenizer_input.proofs.PlainParts.{ArePlain, joined, of_front, at_most}
use Rattle.h5_tokenizer_input.proofs.plain.count_plain.Goals as goal
use Rattle.h5_tokenizer_input.proofs.plain.count_plain.Goals.{After-count_far-m}

front : (c : After-count_far-m) → ArePlain c.as_bytes-bytes.result.now c.count_bytes-n.result.0 c.count_bytes-n.result.1
front c = of_front c.as_bytes-bytes.result.now c.split_at.result.0.now c.min.result c.count_bytes-n.result.0 c.count_bytes-n.result.1 c.split_at.ensures.front (omega (arith, c.split_at.ensures.back_len)) (omega (arith, c.split_at.ensures.front_len, c.count_bytes-n.ensures.within)) (record {
  within = c.count_bytes-n.ensures.within;
  plain = c.count_bytes-n.ensures.plain;
  counted = c.count_bytes-n.ensures.lines;
})

back : (c : After-count_far-m) → ArePlain c.split_at.result.1.now c.count_far-m.result.0 c.count_far-m.result.1
back c = record { within = c.count_far-m.ensures.within; plain = c.count_far-m.ensures.plain; counted = c.count_far-m.ensures.lines }

both : (c : After-count_far-m) → ArePlain c.args.text.now (c.count_bytes-n.result.0 + c.count_far-m.result.0) (c.count_bytes-n.result.1 + c.count_far-m.result.1)
both c =
    let bytes = c.as_bytes-bytes.result.now in
    let all : c.min.result ≡ c.count_bytes-n.result.0 = omega (arith, c.split_at.ensures.front_len, c.count_bytes-n.ensures.within, c.if-n-front.false) in
    let rest : c.split_at.result.1.now ≡ drop c.count_bytes-n.result.0 bytes = subst (λ k. c.split_at.result.1.now ≡ drop k bytes) all c.split_at.ensures.back in
    subst (λ l. ArePlain l (c.count_bytes-n.result.0 + c.count_far-m.result.0) (c.count_bytes-n.result.1 + c.count_far-m.result.1)) c.as_bytes-bytes.ensures.value
    (joined bytes c.split_at.result.1.now c.count_bytes-n.result.0 c.count_far-m.result.0 c.count_bytes-n.result.1 c.count_far-m.result.1 rest (front c) (back c))

pub overflow_add-result-2 : goal.overflow_add-result-2
overflow_add-result-2 c =
    let b = (goal.at.overflow_add-result-2 c).After-count_far-m in
    omega (arith, at_most _ _ _ (both b), (both b).within)

pub returns-clause-plain : goal.returns-clause-plain
returns-clause-plain c = (both (goal.at.returns-clause-plain c).After-count_far-m).plain

pub returns-clause-lines : goal.returns-clause-lines
returns-clause-lines c = (both (goal.at.returns-clause-lines c).After-count_far-m).counted
