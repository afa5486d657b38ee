use Rattle.std.proofs.Common.{◌≡◌, ℕ, List, length}
use Rattle.h5_interface.specs.Forest.{Forest}
use Rattle.h5_selectors.specs.Rows.{AreChildRows, AreLinked}
use Rattle.h5_selectors.proofs.rows.link_children.Given as goal

abbrev pub invariant-loop-at : goal.invariant-loop-at
invariant-loop-at l =
    (length l.links.items ≡ length l.fn.links.items)
    × ((f : Forest) (ns : List ℕ) → AreLinked f ns l.fn.links.items → AreChildRows f ns l.parent l.children → AreLinked f ns l.links.items)
