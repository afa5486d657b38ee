use Rattle.std.proofs.Common.{◌≡◌, ℕ, ◌<◌, ◌&&◌, false, get_or, vec_len}
use Rattle.std.specs.Option.{option_map}
use Rattle.h5_selectors.specs.Query.{context, holds_by}
use Rattle.h5_selectors.specs.Rows.{node_of}
use Rattle.h5_selectors.specs.declared.formula.Formula as formula
use Rattle.h5_selectors.proofs.tables.placed_alike.Given as goal

abbrev pub invariant-loop-at : goal.invariant-loop-at
invariant-loop-at g l =
    (vec_len l.table ≡ l.at)
    × ((k : ℕ) → k < l.at → get_or l.table.items k false ≡ (get_or l.set k false && holds_by (context (g.T.Tree.forest l.query.tree.now) l.query.is_quirky (option_map g.T.Tree.number l.query.scope)) (formula.NthOfType l.indices l.side) (node_of g.T.Tree.number l.rows k)))
