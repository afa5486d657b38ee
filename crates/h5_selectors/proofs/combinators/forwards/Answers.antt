use Rattle.std.proofs.Common.{◌∙◌, option_map}
use Rattle.h5_selectors.proofs.Linking.{forwards_step}
use Rattle.h5_selectors.specs.Asking.{asked}
use Rattle.h5_selectors.proofs.combinators.forwards.Goals as goal

pub loop-link-preserved : goal.loop-link-preserved
loop-link-preserved c = forwards_step c.loop-link.links.items c.pop.new.self.items c.in-Some.link (option_map asked c.loop-link.further) c.in-Some.ensures.items c.in_ok-all.ensures c.forth.ensures c.in_ok-along.ensures ∙ c.loop-link.invariant
