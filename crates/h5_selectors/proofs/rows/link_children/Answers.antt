use Rattle.std.proofs.Common.{◌∙◌, arith}
use Rattle.h5_selectors.proofs.rows.link_children.Goals as goal

pub loop-at-preserved : goal.loop-at-preserved
loop-at-preserved c = (
  c.set_beside.ensures.count ∙ c.loop-at.invariant.0,
  λ f ns linked are. c.set_beside.ensures.links f ns (c.loop-at.invariant.1 f ns linked are) (rw (c.before-previous.ensures, c.behind.ensures) (are c.loop-at.at (omega (arith, c.loop-at-test.true)))),
)
