use Rattle.h5_selectors.proofs.Linking.{backwards_step}
use Rattle.h5_selectors.specs.Asking.{asked}
use Rattle.h5_selectors.proofs.combinators.backwards.Goals as goal

pub loop-link-preserved : goal.loop-link-preserved
loop-link-preserved c = backwards_step (asked c.args.first) c.loop-link.yielded c.in-Some.link c.loop-link.invariant c.back.ensures c.in_ok-before.ensures c.in_ok-all.ensures
