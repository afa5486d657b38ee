use Rattle.std.proofs.Common.{◌∙◌, ap, arith}
use Rattle.h5_tree.specs.Elements.{is_same_type}
use Rattle.h5_selectors.proofs.Counting.{count_step}
use Rattle.h5_selectors.proofs.holds.count_alike.Goals as goal

pub loop-other-preserved : goal.loop-other-preserved
loop-other-preserved g c =
    let test = is_same_type (g.T.Tree.forest c.args.query.now.tree.now) (g.T.Tree.number c.args.id) in
    count_step g.T.Tree.number test c.args.list.now c.loop-other.other-index c.loop-other.count _ c.more-count.result c.is_alike.result c.other-item.result (omega (arith, c.loop-other-test.true))
    (c.is_alike.ensures ∙ ap (λ x. test (g.T.Tree.number x)) c.other-item.is) c.more-count.ensures c.loop-other.invariant
