use Rattle.std.proofs.Common.{sym, ◌∙◌, arith}
use Rattle.h5_markup.specs.Cuts.{is_in}
use Rattle.h5_markup.proofs.Cutting.{before_take, from_drop}
use Rattle.h5_markup.proofs.cut.cut_at.Goals as goal

pub returns-clause-front : goal.returns-clause-front
returns-clause-front c =
    let at = c.first_inside-n.ensures in
    let same = c.as_bytes.ensures.value in
    c.split_at.ensures.front ∙ sym (before_take (is_in c.args.class) c.args.text.now c.first_inside-n.result (omega (arith, at.within, c.as_bytes.ensures.len))
    (rw same at at.passed) (rw same at at.stops))

pub returns-clause-back : goal.returns-clause-back
returns-clause-back c =
    let at = c.first_inside-n.ensures in
    let same = c.as_bytes.ensures.value in
    c.split_at.ensures.back ∙ sym (from_drop (is_in c.args.class) c.args.text.now c.first_inside-n.result (omega (arith, at.within, c.as_bytes.ensures.len))
    (rw same at at.passed) (rw same at at.stops))
