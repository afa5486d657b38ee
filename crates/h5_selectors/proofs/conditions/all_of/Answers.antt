use Rattle.std.proofs.Common.{◌∙◌}
use Rattle.h5_selectors.proofs.Linking.{all_step}
use Rattle.h5_selectors.specs.Asking.{asked}
use Rattle.h5_selectors.proofs.conditions.all_of.Goals as goal

pub loop-one-preserved : goal.loop-one-preserved
loop-one-preserved c = all_step c.loop-one.list.items c.pop-in-loop-one.new.self.items c.in-Some-pop.one (asked c.loop-one.all) c.in-Some-pop.ensures.items c.in_ok-all.ensures ∙ c.loop-one.invariant
