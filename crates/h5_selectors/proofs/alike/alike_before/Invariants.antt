use Rattle.std.proofs.Common.{◌≡◌, ◌+◌, ◌<◌}
use Rattle.std.specs.Prelude.{IfSome}
use Rattle.std.specs.List.{filter}
use Rattle.std.specs.Option.{option_map_or}
use Rattle.h5_tree.specs.Elements.{before, is_same_type}
use Rattle.h5_selectors.specs.Rows.{node_of, nodes_in}
use Rattle.h5_selectors.proofs.AlikeLaws.{up_to}
use Rattle.h5_selectors.proofs.alike.alike_before.Given as goal

abbrev pub invariant-back : goal.invariant-back
invariant-back g l =
    let n = node_of g.T.Tree.number l.rows l.at in
    let f = g.T.Tree.forest l.query.tree.now in
    IfSome l.link (λ q. (0 < q) × (q < l.at)) × (filter (is_same_type f n) (before f n) ≡ filter (is_same_type f n) (up_to f (nodes_in g.T.Tree.number l.rows) l.link))

abbrev pub decreases-back : goal.decreases-back
decreases-back g l = option_map_or (λ q. q + 1) l.link 0
