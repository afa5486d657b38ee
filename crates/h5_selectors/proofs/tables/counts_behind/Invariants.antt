use Rattle.std.proofs.Common.{◌≡◌, ℕ, ◌+◌, ◌<◌, ◌≤◌, Bool, get_or, length}
use Rattle.std.specs.List.{filter}
use Rattle.h5_selectors.specs.Rows.{node_of}
use Rattle.h5_selectors.specs.Tables.{Tells}
use Rattle.h5_tree.specs.Elements.{behind}
use Rattle.h5_selectors.proofs.tables.counts_behind.Given as goal

abbrev pub invariant-loop-step : goal.invariant-loop-step
invariant-loop-step g l = record {
  count : length l.counts.items ≡ length l.set;
  few : (k : ℕ) → get_or l.counts.items k 0 ≤ l.step;
  counts : (test : ℕ → Bool) → Tells g.T.Tree.number test l.rows l.set → (k : ℕ) → 0 < k → length l.set ≤ k + l.step → k < length l.set → get_or l.counts.items k 0 ≡ length (filter test (behind (g.T.Tree.forest l.query.tree.now) (node_of g.T.Tree.number l.rows k)));
}
