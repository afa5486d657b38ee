use Rattle.std.proofs.Common.{◌≡◌, ℕ, ◌<◌, ◌&&◌, false, get_or, vec_len}
use Rattle.std.specs.Prelude.{not}
use Rattle.h5_selectors.proofs.tables.without.Given as goal

abbrev pub invariant-loop-at : goal.invariant-loop-at
invariant-loop-at l = (vec_len l.left ≡ l.at) × ((k : ℕ) → k < l.at → get_or l.left.items k false ≡ (get_or l.set k false && not (get_or l.other k false)))
