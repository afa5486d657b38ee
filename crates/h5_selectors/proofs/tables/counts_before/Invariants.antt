use Rattle.std.proofs.Common.{◌≡◌, ℕ, ◌<◌, ◌≤◌, Bool, get_or, length, vec_len}
use Rattle.std.specs.List.{filter}
use Rattle.h5_selectors.specs.Rows.{node_of}
use Rattle.h5_selectors.specs.Tables.{Tells}
use Rattle.h5_tree.specs.Elements.{before}
use Rattle.h5_selectors.proofs.tables.counts_before.Given as goal

abbrev pub invariant-loop-at : goal.invariant-loop-at
invariant-loop-at g l = record {
  count : vec_len l.counts ≡ l.at;
  few : (k : ℕ) → get_or l.counts.items k 0 ≤ l.at;
  counts : (test : ℕ → Bool) → Tells g.T.Tree.number test l.rows l.set → (k : ℕ) → 0 < k → k < l.at → get_or l.counts.items k 0 ≡ length (filter test (before (g.T.Tree.forest l.query.tree.now) (node_of g.T.Tree.number l.rows k)));
}
