use Rattle.std.proofs.Common.{◌≡◌, ℕ, ◌<◌, ◌||◌, drop, false, get_or, length, vec_len}
use Rattle.std.specs.Prelude.{not}
use Rattle.std.specs.Option.{option_map}
use Rattle.h5_selectors.specs.Query.{context, matches_by}
use Rattle.h5_selectors.specs.Rows.{node_of}
use Rattle.h5_selectors.proofs.tables.unmatched.Given as goal

abbrev pub invariant-loop-formula : goal.invariant-loop-formula
invariant-loop-formula g l =
    (vec_len l.left ≡ length l.rows.ids.items)
    × ((k : ℕ) → k < length l.rows.ids.items
    → (not (get_or l.left.items k false) || matches_by (context (g.T.Tree.forest l.query.tree.now) l.query.is_quirky (option_map g.T.Tree.number l.query.scope)) (drop l.formula-index l.list) (node_of g.T.Tree.number l.rows k)) ≡ matches_by (context (g.T.Tree.forest l.query.tree.now) l.query.is_quirky (option_map g.T.Tree.number l.query.scope)) l.list (node_of g.T.Tree.number l.rows k))
