use Rattle.std.proofs.Common.{◌≡◌, false, ap, sym, ◌∙◌}
use Rattle.h5_tokenizer_input.specs.Lines.{newlines}
use Rattle.h5_tokenizer_input.proofs.LineLaws.{none_passed}
use Rattle.h5_tokenizer_input.proofs.lines.rare_newlines.Goals as goal

pub returns : goal.returns
returns c =
    let none : c.args.behind_cr ≡ false = c.if-behind_cr.false in
    let same = none_passed c.args.bytes.now c.first_low.result c.first_low.ensures.passed in
    c.few_newlines-2.ensures ∙ ap (newlines false) c.split_at.ensures.back ∙ sym same ∙ ap (λ b. newlines b c.args.bytes.now) (sym none)
