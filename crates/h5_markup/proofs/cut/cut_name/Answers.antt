use Rattle.std.proofs.Common.{drop, ap, ◌∙◌}
use Rattle.h5_markup.proofs.Cutting.{boundary_name, cuts_name}
use Rattle.h5_markup.proofs.cut.cut_name.Goals as goal

pub split_at-requires-2 : goal.split_at-requires-2
split_at-requires-2 c =
    let at = c.first_index-n.ensures in
    boundary_name c.args.class c.args.text.now c.split_at.result.1.now c.first_index-n.result c.requires (c.split_at.ensures.back ∙ ap (drop 1) c.as_bytes.ensures.value) at.within at.stops

pub returns : goal.returns
returns c =
    let at = c.first_index-n.ensures in
    cuts_name c.args.class c.args.text.now c.split_at.result.1.now c.split_at-2.result.0.now c.split_at-2.result.1.now c.first_index-n.result c.requires (c.split_at.ensures.back ∙ ap (drop 1) c.as_bytes.ensures.value) at.within at.passed at.stops c.split_at-2.ensures.front c.split_at-2.ensures.back
