use Rattle.std.proofs.Common.{◌≡◌, ◌∙◌, ◌&&◌, Some, ap, arith, sym}
use Rattle.std.specs.Option.{option_map}
use Rattle.h5_arena.specs.Kin.{tree_parent}
use Rattle.h5_selectors.specs.Query.{context, holds_by}
use Rattle.h5_tree.specs.Elements.{is_element}
use Rattle.h5_selectors.proofs.Upwards.{and_false, passed}
use Rattle.h5_selectors.proofs.holds.holds_above.Goals as goal
use Rattle.h5_selectors.proofs.holds.holds_above.Goals.{else-is_element-via-then-is_element+in_ok-holds+else-branch, else-is_element-via-else-is_element}

pub upwards-preserved : goal.upwards-preserved
upwards-preserved g c =
    let f = g.T.Tree.forest c.args.query.now.tree.now in
    let test = holds_by (context (g.T.Tree.forest c.args.query.now.tree.now) c.args.query.now.is_quirky (option_map g.T.Tree.number c.args.query.now.scope)) c.args.formula.now in
    let p = g.T.Tree.number c.in-Some.parent in
    let up : tree_parent f (g.T.Tree.number c.upwards.at) ≡ Some p = sym c.in-Some.ensures in
    elim c.else-is_element.branch [
      | else-is_element-via-then-is_element+in_ok-holds+else-branch w ↦
          passed f test c.node_count-step-end.result c.upwards._step (g.T.Tree.number c.upwards.at) p _ (omega (arith, c.upwards-test.true)) up (and_false (is_element f p) (test p) (sym w.in_ok-holds.ensures ∙ w.if-branch.false)) c.upwards.invariant
      | else-is_element-via-else-is_element w ↦
          passed f test c.node_count-step-end.result c.upwards._step (g.T.Tree.number c.upwards.at) p _ (omega (arith, c.upwards-test.true)) up (ap (λ b. b && test p) (sym c.is_element.ensures ∙ w.if-is_element.false)) c.upwards.invariant
    ]
