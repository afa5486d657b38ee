use Rattle.std.proofs.Common.{◌≡◌, ℕ, ◌+◌, ◌<◌, ◌≤◌, Bool, false, get_or, length}
use Rattle.h5_selectors.specs.Rows.{node_of}
use Rattle.h5_selectors.specs.Tables.{Tells, there}
use Rattle.h5_selectors.specs.declared.formula.Way.TheVariants.{Below}
use Rattle.h5_selectors.proofs.tables.under.Given as goal

abbrev pub invariant-loop-step : goal.invariant-loop-step
invariant-loop-step g l =
    (length l.table.items ≡ length l.set)
    × ((test : ℕ → Bool) → Tells g.T.Tree.number test l.rows l.set → (k : ℕ) → 0 < k → length l.set ≤ k + l.step → k < length l.set → get_or l.table.items k false ≡ there (g.T.Tree.forest l.query.tree.now) test Below (node_of g.T.Tree.number l.rows k))
