use Rattle.std.proofs.Common.{◌≡◌, ℕ, ◌<◌, false, get_or, vec_len}
use Rattle.std.specs.Option.{option_map}
use Rattle.h5_selectors.specs.Query.{context, holds_by}
use Rattle.h5_selectors.specs.Rows.{node_of}
use Rattle.h5_selectors.specs.Tables.{there}
use Rattle.h5_selectors.specs.declared.formula.Way.TheVariants.{Ancestor}
use Rattle.h5_selectors.proofs.tables.above.Given as goal

abbrev pub invariant-loop-row : goal.invariant-loop-row
invariant-loop-row g l =
    (vec_len l.table ≡ l._row-index)
    × ((k : ℕ) → k < l._row-index → get_or l.table.items k false ≡ there (g.T.Tree.forest l.query.tree.now) (holds_by (context (g.T.Tree.forest l.query.tree.now) l.query.is_quirky (option_map g.T.Tree.number l.query.scope)) l.inner) Ancestor (node_of g.T.Tree.number l.rows k))
