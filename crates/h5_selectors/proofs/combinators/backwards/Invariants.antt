use Rattle.std.proofs.Common.{◌≡◌, map}
use Rattle.h5_selectors.specs.Asking.{asked}
use Rattle.h5_selectors.specs.Grammar.{backwards, link_asked}
use Rattle.h5_selectors.proofs.combinators.backwards.Given as goal

abbrev pub invariant-loop-link : goal.invariant-loop-link
invariant-loop-link l = asked l.all ≡ backwards (asked l.fn.first) (map link_asked l.yielded)
