use Rattle.std.proofs.Common.{◌≡◌, ◌∙◌, ◌<◌, Some, ap, arith, length, sym}
use Rattle.std.specs.List.{filter}
use Rattle.std.specs.Option.{option_map}
use Rattle.h5_tree.specs.Elements.{before, is_same_type}
use Rattle.h5_selectors.specs.Query.{context}
use Rattle.h5_selectors.specs.Rows.{node_of, nodes_in}
use Rattle.h5_selectors.proofs.AlikeLaws.{before_are, earlier_within, fewer_back, found_back, passed_back, up_to}
use Rattle.h5_selectors.proofs.alike.alike_before.Goals as goal

pub back-init : goal.back-init
back-init g c =
    let f = g.T.Tree.forest c.args.query.now.tree.now in
    let rows = c.args.rows.now in
    let at = c.args.at in
    let ns = nodes_in g.T.Tree.number rows in
    let n = node_of g.T.Tree.number rows at in
    let beside = ((c.links-link.ensures g.T.Tree.number (context (g.T.Tree.forest c.args.query.now.tree.now) c.args.query.now.is_quirky (option_map g.T.Tree.number c.args.query.now.scope)) c.requires.rows).beside c.requires.some).2.previous_is in
    (earlier_within f ns at at c.links-link.result.previous (omega arith) beside, ap (filter (is_same_type f n)) (before_are f ns at c.links-link.result.previous beside))

pub back-smaller : goal.back-smaller
back-smaller g c =
    let f = g.T.Tree.forest c.args.query.now.tree.now in
    let rows = c.args.rows.now in
    let at = c.args.at in
    let ns = nodes_in g.T.Tree.number rows in
    let n = node_of g.T.Tree.number rows at in
    let row = c.in-Some.row in
    let bounds : (0 < row) × (row < at) = (rw c.in-Some.is at c.back.invariant.0) in
    let some : 0 < row = bounds.0 in
    let beside = ((c.links-link-in-Some.ensures g.T.Tree.number (context (g.T.Tree.forest c.args.query.now.tree.now) c.args.query.now.is_quirky (option_map g.T.Tree.number c.args.query.now.scope)) c.requires.rows).beside some).2.previous_is in
    rw c.in-Some.is (fewer_back f ns row c.links-link-in-Some.result.previous beside)

pub back-preserved : goal.back-preserved
back-preserved g c =
    let f = g.T.Tree.forest c.args.query.now.tree.now in
    let rows = c.args.rows.now in
    let at = c.args.at in
    let ns = nodes_in g.T.Tree.number rows in
    let n = node_of g.T.Tree.number rows at in
    let row = c.in-Some.row in
    let bounds : (0 < row) × (row < at) = (rw c.in-Some.is at c.back.invariant.0) in
    let some : 0 < row = bounds.0 in
    let beside = ((c.links-link-in-Some.ensures g.T.Tree.number (context (g.T.Tree.forest c.args.query.now.tree.now) c.args.query.now.is_quirky (option_map g.T.Tree.number c.args.query.now.scope)) c.requires.rows).beside some).2.previous_is in
    let told : c.is_alike.result ≡ is_same_type f n (node_of g.T.Tree.number rows row) = (rw (c.id-id.ensures g.T.Tree.number, c.id.ensures g.T.Tree.number) at c.is_alike.ensures) in
    let same : filter (is_same_type f n) (before f n) ≡ filter (is_same_type f n) (up_to f ns (Some row)) = (rw c.in-Some.is at c.back.invariant.1) in
    (earlier_within f ns at row c.links-link-in-Some.result.previous (omega (arith, bounds.1)) beside, same ∙ passed_back f ns at row c.links-link-in-Some.result.previous (sym told ∙ c.if-is_alike.false) beside)

pub returns-then-is_alike : goal.returns-then-is_alike
returns-then-is_alike g c =
    let f = g.T.Tree.forest c.args.query.now.tree.now in
    let rows = c.args.rows.now in
    let at = c.args.at in
    let ns = nodes_in g.T.Tree.number rows in
    let n = node_of g.T.Tree.number rows at in
    let row = c.in-Some.row in
    let bounds : (0 < row) × (row < at) = (rw c.in-Some.is at c.back.invariant.0) in
    let same : filter (is_same_type f n) (before f n) ≡ filter (is_same_type f n) (up_to f ns (Some row)) = (rw c.in-Some.is at c.back.invariant.1) in
    let told : c.is_alike.result ≡ is_same_type f n (node_of g.T.Tree.number rows row) = (rw (c.id-id.ensures g.T.Tree.number, c.id.ensures g.T.Tree.number) at c.is_alike.ensures) in
    (bounds.0, bounds.1, ap length same ∙ found_back f ns at row (sym told ∙ c.if-is_alike.true))
