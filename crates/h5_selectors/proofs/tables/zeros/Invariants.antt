use Rattle.std.proofs.Common.{◌≡◌, ℕ, ◌<◌, get_or, vec_len}
use Rattle.h5_selectors.proofs.tables.zeros.Given as goal

abbrev pub invariant-loop-at : goal.invariant-loop-at
invariant-loop-at l = (vec_len l.all ≡ l._at) × ((k : ℕ) → k < l._at → get_or l.all.items k 0 ≡ 0)
