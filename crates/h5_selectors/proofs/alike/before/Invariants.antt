use Rattle.std.proofs.Common.{◌≡◌, ℕ, ◌<◌, ◌≤◌, get_or, length}
use Rattle.h5_selectors.specs.Rows.{node_of}
use Rattle.h5_selectors.specs.Tables.{count_alike}
use Rattle.h5_selectors.specs.declared.formula.Side.TheVariants.{First}
use Rattle.h5_selectors.proofs.alike.before.Given as goal

abbrev pub invariant-loop-at : goal.invariant-loop-at
invariant-loop-at g l = record {
  count : length l.counts.items ≡ length l.rows.ids.items;
  few : (k : ℕ) → get_or l.counts.items k 0 ≤ l.at;
  counts : (k : ℕ) → 0 < k → k < l.at → get_or l.counts.items k 0 ≡ count_alike (g.T.Tree.forest l.query.tree.now) First (node_of g.T.Tree.number l.rows k);
}
