use Rattle.std.proofs.Common.{◌≡◌, [], ◌∷◌, ◌++◌, length, map}
use Rattle.h5_selectors.specs.Asking.{asked}
use Rattle.h5_selectors.specs.Grammar.{any_of}
use Rattle.h5_selectors.proofs.conditions.any_of.Given as goal

abbrev pub invariant-loop-one : goal.invariant-loop-one
invariant-loop-one l = any_of (map asked l.list.items ++ asked l.all ∷ []) ≡ any_of (map asked l.fn.list.items)

abbrev pub decreases-loop-one : goal.decreases-loop-one
decreases-loop-one l = length l.list.items
