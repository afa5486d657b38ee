use Rattle.std.proofs.Common.{◌≡◌, ◌-◌, ◌<◌, length}
use Rattle.std.specs.Prelude.{IfSome}
use Rattle.std.specs.List.{filter}
use Rattle.std.specs.Option.{option_map_or}
use Rattle.h5_tree.specs.Elements.{behind, is_same_type}
use Rattle.h5_selectors.specs.Rows.{node_of, nodes_in}
use Rattle.h5_selectors.proofs.AlikeLaws.{from}
use Rattle.h5_selectors.proofs.alike.alike_behind.Given as goal

abbrev pub invariant-forth : goal.invariant-forth
invariant-forth g l =
    let n = node_of g.T.Tree.number l.rows l.at in
    let f = g.T.Tree.forest l.query.tree.now in
    IfSome l.link (λ r. (l.at < r) × (r < length l.rows.ids.items)) × (filter (is_same_type f n) (behind f n) ≡ filter (is_same_type f n) (from f (nodes_in g.T.Tree.number l.rows) l.link))

abbrev pub decreases-forth : goal.decreases-forth
decreases-forth g l = option_map_or (λ r. length l.rows.ids.items - r) l.link 0
