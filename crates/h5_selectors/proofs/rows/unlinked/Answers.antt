use Rattle.std.proofs.Common.{arith}
use Rattle.h5_selectors.proofs.RowLaws.{linked_more}
use Rattle.h5_selectors.proofs.rows.unlinked.Goals as goal

pub loop-at-preserved : goal.loop-at-preserved
loop-at-preserved c = (
  omega (arith, c.loop-at.invariant.0, c.in_ok-push.ensures.len),
  λ f ns. rw c.in_ok-push.ensures.items (linked_more f ns c.loop-at.links.items _ (c.loop-at.invariant.1 f ns) (record { beside = tt; children = λ e. cc; end = omega (arith, c.loop-at.invariant.0, c.loop-at.links.ok) })),
)
