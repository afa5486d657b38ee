use Rattle.std.proofs.Common.{◌≡◌, ℕ, ◌<◌, Bool, false, get_or, vec_len}
use Rattle.h5_selectors.specs.Rows.{node_of}
use Rattle.h5_selectors.specs.Tables.{Tells, there}
use Rattle.h5_selectors.specs.declared.formula.Way.TheVariants.{Earlier}
use Rattle.h5_selectors.proofs.tables.earlier.Given as goal

abbrev pub invariant-loop-at : goal.invariant-loop-at
invariant-loop-at g l =
    (vec_len l.table ≡ l.at)
    × ((test : ℕ → Bool) → Tells g.T.Tree.number test l.rows l.set → (k : ℕ) → 0 < k → k < l.at → get_or l.table.items k false ≡ there (g.T.Tree.forest l.query.tree.now) test Earlier (node_of g.T.Tree.number l.rows k))
