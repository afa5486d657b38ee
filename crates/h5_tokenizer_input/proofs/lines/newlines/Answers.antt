use Rattle.std.proofs.Common.{◌≡◌, ◌<◌, ◌+◌, eqb, length, take, drop, get_or, ap, ◌∙◌, arith}
use Rattle.h5_tokenizer_input.specs.Lines.{newlines}
use Rattle.h5_tokenizer_input.proofs.LineLaws.{few, in_parts}
use Rattle.h5_tokenizer_input.proofs.lines.newlines.Goals as goal

pub loop-rest-preserved : goal.loop-rest-preserved
loop-rest-preserved c =
    let after_cr = c.loop-rest.after_cr in
    let rest = c.loop-rest.rest.now in
    let last = eqb (get_or rest 63 0) 13 in
    let enough : 63 < length rest = omega arith in
    let parts : newlines after_cr rest ≡ newlines after_cr (take 64 rest) + newlines last (drop 64 rest) = in_parts after_cr rest 63 enough in
    let front : c.few_newlines.result ≡ newlines after_cr (take 64 rest) = c.few_newlines.ensures ∙ ap (newlines after_cr) c.split_at.ensures.front in
    let back : newlines last c.split_at.result.1.now ≡ newlines last (drop 64 rest) = ap (newlines last) c.split_at.ensures.back in
    let most = few after_cr c.split_at.result.0.now in
    record {
      few = omega (arith, most, c.few_newlines.ensures, c.split_at.ensures.front_len, c.split_at.ensures.back_len);
      counted = omega (arith, parts, front, back, c.loop-rest.invariant.counted);
    }
