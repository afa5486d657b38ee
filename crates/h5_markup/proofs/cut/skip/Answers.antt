use Rattle.std.proofs.Common.{sym, ap, ◌∙◌, not, arith}
use Rattle.h5_markup.specs.Cuts.{is_in}
use Rattle.h5_markup.proofs.Cutting.{from_drop, boundary_after}
use Rattle.h5_markup.proofs.cut.skip.Goals as goal

pub split_at-requires : goal.split_at-requires
split_at-requires c =
    let at = c.first_index-n.ensures in
    boundary_after c.args.class c.args.text.now c.first_index-n.result c.utf8.text (omega (arith, at.within, c.as_bytes.ensures.len)) (rw c.as_bytes.ensures.value at at.passed)

pub returns : goal.returns
returns c =
    let at = c.first_index-n.ensures in
    let same = c.as_bytes.ensures.value in
    c.split_at.ensures.back ∙ sym (from_drop (λ x. not (is_in c.args.class x)) c.args.text.now c.first_index-n.result (omega (arith, at.within, c.as_bytes.ensures.len))
    (λ k lt. ap not ((rw same at at.passed) k lt)) (λ lt. ap not ((rw same at at.stops) lt)))
