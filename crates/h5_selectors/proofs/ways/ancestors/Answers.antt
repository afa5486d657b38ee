use Rattle.std.proofs.Common.{◌≡◌, None, arith, sym}
use Rattle.h5_arena.specs.Kin.{tree_parent}
use Rattle.h5_selectors.proofs.AboveLaws.{above_all, above_more, grown, stayed}
use Rattle.h5_selectors.proofs.ways.ancestors.Goals as goal
use Rattle.h5_selectors.proofs.ways.ancestors.Goals.{then-is_element+in_ok-push, else-is_element}

pub returns-in_default : goal.returns-in_default
returns-in_default g c =
    let f = g.T.Tree.forest c.args.tree.now in
    let node = g.T.Tree.number in
    let none : tree_parent f (node c.loop-step.at) ≡ None = sym c.in_default.ensures in
    above_all f node c.node_count-step-end.result c.loop-step._step (node c.loop-step.at) c.loop-step.found.items _ (omega (arith, c.loop-step-test.true)) none c.loop-step.invariant

pub loop-step-preserved : goal.loop-step-preserved
loop-step-preserved g c =
    let f = g.T.Tree.forest c.args.tree.now in
    let node = g.T.Tree.number in
    above_more f node c.node_count-step-end.result c.loop-step._step (node c.loop-step.at) c.in-Some.parent c.loop-step.found.items c.if-is_element.found.items c.is_element.result _ (omega (arith, c.loop-step-test.true)) (sym c.in-Some.ensures) c.is_element.ensures
    (elim c.if-is_element.branch [
      | then-is_element+in_ok-push w ↦ grown c.is_element.result c.in-Some.parent c.loop-step.found.items c.if-is_element.found.items w.if-is_element.true (cc (w.found-is, w.in_ok-push.ensures.items))
      | else-is_element w ↦ stayed c.is_element.result c.in-Some.parent c.loop-step.found.items c.if-is_element.found.items w.if-is_element.false (cc (w.found-is))
    ])
    c.loop-step.invariant
