use Rattle.std.proofs.Common.{◌≡◌, ◌<◌, ◌+◌, length, true, cond, eqb, get_or, ap, sym, ◌∙◌, arith}
use Rattle.std.proofs.lemmas.Bool.{ne_eqb}
use Rattle.h5_markup.specs.Plain.{is_plain}
use Rattle.h5_tokenizer_input.proofs.PlainLines.{all_plain, high_none, high_plain, none_more, plain_next}
use Rattle.h5_tokenizer_input.proofs.plain.count_bytes.Goals as goal
use Rattle.h5_tokenizer_input.proofs.plain.count_bytes.Goals.{then-b-le93+else-not-is_plain+then-b-eq10, then-b-le93+else-not-is_plain+else-b-eq10, else-b-le93}

pub loop-i-preserved : goal.loop-i-preserved
loop-i-preserved c =
    let bytes = c.args.bytes.now in
    let i = c.loop-i.i in
    let within : i < length bytes = omega arith in
    elim c.if-b-le93.branch [
      | then-b-le93+else-not-is_plain+then-b-eq10 w ↦
          let here : is_plain (get_or bytes i 0) ≡ true = sym w.is_plain.ensures ∙ w.if-not-is_plain.false in
          record {
            plain = all_plain bytes i c.loop-i.invariant.plain here;
            few = omega (arith, w.lines-is, c.loop-i.invariant.few);
            counted = plain_next bytes i c.loop-i.lines c.if-b-le93.lines within c.loop-i.invariant.plain here c.loop-i.invariant.counted (w.lines-is ∙ ap (λ x. c.loop-i.lines + cond (eqb x 10) 1 0) (sym w.if-b-eq10.true));
          }
      | then-b-le93+else-not-is_plain+else-b-eq10 w ↦
          let here : is_plain (get_or bytes i 0) ≡ true = sym w.is_plain.ensures ∙ w.if-not-is_plain.false in
          record {
            plain = all_plain bytes i c.loop-i.invariant.plain here;
            few = omega (arith, w.lines-is, c.loop-i.invariant.few);
            counted = plain_next bytes i c.loop-i.lines c.if-b-le93.lines within c.loop-i.invariant.plain here c.loop-i.invariant.counted (w.lines-is ∙ sym (none_more (ne_eqb (get_or bytes i 0) 10 w.if-b-eq10.false)));
          }
      | else-b-le93 w ↦
          let high : 93 < get_or bytes i 0 = omega (arith, w.if-b-le93.false) in
          let here : is_plain (get_or bytes i 0) ≡ true = high_plain (get_or bytes i 0) high in
          record {
            plain = all_plain bytes i c.loop-i.invariant.plain here;
            few = omega (arith, w.lines-is, c.loop-i.invariant.few);
            counted = plain_next bytes i c.loop-i.lines c.if-b-le93.lines within c.loop-i.invariant.plain here c.loop-i.invariant.counted (w.lines-is ∙ sym (none_more (high_none (get_or bytes i 0) high)));
          }
    ]
