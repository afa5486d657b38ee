use Rattle.std.proofs.Common.{◌≡◌, ℕ, List, vec_len}
use Rattle.h5_interface.specs.Forest.{Forest}
use Rattle.h5_selectors.specs.Rows.{AreLinked}
use Rattle.h5_selectors.proofs.rows.unlinked.Given as goal

abbrev pub invariant-loop-at : goal.invariant-loop-at
invariant-loop-at l = (vec_len l.links ≡ l.at) × ((f : Forest) (ns : List ℕ) → AreLinked f ns l.links.items)
