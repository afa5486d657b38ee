use Rattle.std.proofs.Common.{◌≡◌, ℕ, ◌<◌, ◌++◌, Bool, drop, false, get_or, length, map}
use Rattle.std.specs.Prelude.{not}
use Rattle.std.specs.List.{filter}
use Rattle.h5_selectors.proofs.selector.taken.Given as goal

abbrev pub invariant-loop-at : goal.invariant-loop-at
invariant-loop-at g l = (place : g.row.N.Denot → ℕ) (test : ℕ → Bool) → ((k : ℕ) → k < length l.ids → get_or l.left k false ≡ not (test (get_or (map place l.ids) k 0)))
    → map place l.found.items ++ filter test (map place (drop l.at l.ids)) ≡ filter test (map place (drop 1 l.ids))
