use Rattle.std.proofs.Common.{sym, ap, ◌∙◌, not}
use Rattle.h5_encodings.specs.Cuts.{is_in}
use Rattle.h5_markup.proofs.Cutting.{from_drop}
use Rattle.h5_encodings.proofs.cut.skip.Goals as goal

pub returns : goal.returns
returns c =
    let at = c.first_index-n.ensures in
    c.split_at.ensures.back ∙ sym (from_drop (λ x. not (is_in c.args.class x)) c.args.bytes.now c.first_index-n.result at.within
    (λ k lt. ap not (at.passed k lt)) (λ lt. ap not (at.stops lt)))
