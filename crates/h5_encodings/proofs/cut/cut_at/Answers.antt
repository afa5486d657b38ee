use Rattle.std.proofs.Common.{sym, ◌∙◌}
use Rattle.h5_encodings.specs.Cuts.{is_in}
use Rattle.h5_markup.proofs.Cutting.{before_take, from_drop}
use Rattle.h5_encodings.proofs.cut.cut_at.Goals as goal

pub returns-clause-front : goal.returns-clause-front
returns-clause-front c =
    let at = c.first_index-n.ensures in
    c.split_at.ensures.front ∙ sym (before_take (is_in c.args.class) c.args.bytes.now c.first_index-n.result at.within at.passed at.stops)

pub returns-clause-back : goal.returns-clause-back
returns-clause-back c =
    let at = c.first_index-n.ensures in
    c.split_at.ensures.back ∙ sym (from_drop (is_in c.args.class) c.args.bytes.now c.first_index-n.result at.within at.passed at.stops)
