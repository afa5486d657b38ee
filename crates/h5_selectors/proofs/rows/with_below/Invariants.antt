use Rattle.std.proofs.Common.{◌≡◌, ◌∷◌, take}
use Rattle.h5_selectors.proofs.rows.with_below.Given as goal

abbrev pub invariant-loop-element : goal.invariant-loop-element
invariant-loop-element g l = l.ids.items ≡ l.fn.id ∷ take l.element-index l.element-items
