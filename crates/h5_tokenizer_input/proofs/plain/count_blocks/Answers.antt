use Rattle.std.proofs.Common.{◌∙◌, ap, sym, false, get_or, arith}
use Rattle.std.proofs.lemmas.List.{get_or-take}
use Rattle.h5_markup.specs.Plain.{is_plain}
use Rattle.h5_tokenizer_input.specs.Lines.{newlines}
use Rattle.h5_tokenizer_input.proofs.LineLaws.{few}
use Rattle.h5_tokenizer_input.proofs.PlainParts.{ArePlain, joined}
use Rattle.h5_tokenizer_input.proofs.plain.count_blocks.Goals as goal

pub loop-n-preserved : goal.loop-n-preserved
loop-n-preserved c =
    let bytes = c.args.bytes.now in
    let rest = c.split_at.result.1.now in
    let block = c.split_at-in-loop-n.result.0.now in
    let first : ArePlain bytes c.loop-n.n c.loop-n.lines = record { within = c.loop-n.invariant.within; plain = c.loop-n.invariant.plain; counted = c.loop-n.invariant.counted } in
    let second : ArePlain rest 64 c.few_newlines.result = record {
      within = omega arith;
      plain = λ k lt. sym (ap is_plain (ap (λ l. get_or l k 0) c.split_at-in-loop-n.ensures.front ∙ get_or-take 64 rest k 0 lt)) ∙ c.are_plain.ensures c.if-not-are_plain.false k (omega (arith, c.split_at-in-loop-n.ensures.front_len));
      counted = c.few_newlines.ensures ∙ ap (newlines false) c.split_at-in-loop-n.ensures.front;
    } in
    let both = joined bytes rest c.loop-n.n 64 c.loop-n.lines c.few_newlines.result c.split_at.ensures.back first second in
    record {
      within = both.within;
      plain = both.plain;
      few = omega (arith, few false block, c.few_newlines.ensures, c.loop-n.invariant.few);
      counted = both.counted;
    }
