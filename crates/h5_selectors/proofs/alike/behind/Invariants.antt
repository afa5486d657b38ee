use Rattle.std.proofs.Common.{◌≡◌, ℕ, ◌+◌, ◌<◌, ◌≤◌, get_or, length}
use Rattle.h5_selectors.specs.Rows.{node_of}
use Rattle.h5_selectors.specs.Tables.{count_alike}
use Rattle.h5_selectors.specs.declared.formula.Side.TheVariants.{Last}
use Rattle.h5_selectors.proofs.alike.behind.Given as goal

abbrev pub invariant-loop-step : goal.invariant-loop-step
invariant-loop-step g l = record {
  count : length l.counts.items ≡ length l.rows.ids.items;
  few : (k : ℕ) → get_or l.counts.items k 0 ≤ l.step;
  counts : (k : ℕ) → 0 < k → length l.rows.ids.items < k + l.step → k < length l.rows.ids.items → get_or l.counts.items k 0 ≡ count_alike (g.T.Tree.forest l.query.tree.now) Last (node_of g.T.Tree.number l.rows k);
}
