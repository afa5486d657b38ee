use Rattle.std.proofs.Common.{◌≡◌, length, map, option_map}
use Rattle.std.specs.Prelude.{None}
use Rattle.h5_selectors.specs.Asking.{asked}
use Rattle.h5_selectors.specs.Grammar.{forwards, link_asked}
use Rattle.h5_selectors.proofs.combinators.forwards.Given as goal

abbrev pub invariant-loop-link : goal.invariant-loop-link
invariant-loop-link l = forwards (map link_asked l.links.items) (option_map asked l.further) ≡ forwards (map link_asked l.fn.links.items) None

abbrev pub decreases-loop-link : goal.decreases-loop-link
decreases-loop-link l = length l.links.items
