use Rattle.std.proofs.Common.{◌∙◌, ap, arith, eqb, sym}
use Rattle.h5_markup.specs.Cuts.{before}
use Rattle.h5_tables.proofs.MetaParts.{before_is, end_is, nothing_cut}
use Rattle.h5_tables.proofs.meta_encoding.up_to_end.Goals as goal

pub returns-in-Some : goal.returns-in-Some
returns-in-Some c =
    let found = c.in-Some.ensures.byte (omega arith) (λ w o h. h) in
    found.0 ∙ sym (before_is (λ b. eqb b 59) c.cut_at.result.0.now) ∙ ap (before (λ b. eqb b 59)) c.cut_at.ensures.front ∙ sym (end_is c.args.text.now)

pub returns-in-None : goal.returns-in-None
returns-in-None c =
    let none = c.in-None.ensures.byte (omega arith) (λ w o h. h) in
    sym (nothing_cut (λ b. eqb b 59) c.cut_at.result.0.now none) ∙ ap (before (λ b. eqb b 59)) c.cut_at.ensures.front ∙ sym (end_is c.args.text.now)
