use Rattle.std.proofs.Common.{◌≡◌, ℕ, ◌<◌, ◌&&◌, false, get_or, vec_len}
use Rattle.h5_selectors.specs.Rows.{node_of}
use Rattle.h5_tree.specs.Elements.{is_element}
use Rattle.h5_selectors.proofs.tables.elements_in.Given as goal

abbrev pub invariant-loop-at : goal.invariant-loop-at
invariant-loop-at g l =
    (vec_len l.table ≡ l.at)
    × ((k : ℕ) → k < l.at → get_or l.table.items k false ≡ (is_element (g.T.Tree.forest l.query.tree.now) (node_of g.T.Tree.number l.rows k) && get_or l.set k false))
