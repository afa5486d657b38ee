use Rattle.std.proofs.Common.{◌≡◌, ◌≢◌, ℕ, ◌<◌, None, get_or, true}
use Rattle.h5_selectors.specs.declared.rows.Links.{Links}
use Rattle.h5_selectors.proofs.rows.are_known.Given as goal

abbrev pub invariant-loop-at : goal.invariant-loop-at
invariant-loop-at l =
    ((k : ℕ) (d : Links) → 0 < k → k < l.at → (get_or l.links k d).parent ≢ None)
    × ((k : ℕ) (d : Links) → k < l.at → (get_or l.links k d).knows_children ≡ true)
