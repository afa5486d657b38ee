use Rattle.std.proofs.Common.{◌≡◌, ◌∙◌, ◌<◌, Some, ap, arith, length, subst, sym}
use Rattle.std.specs.Prelude.{IfSome}
use Rattle.std.specs.List.{filter}
use Rattle.std.specs.Option.{option_map}
use Rattle.h5_tree.specs.Elements.{behind, is_same_type}
use Rattle.h5_selectors.specs.Query.{context}
use Rattle.h5_selectors.specs.Rows.{node_of, nodes_in}
use Rattle.h5_selectors.proofs.AlikeLaws.{behind_are, fewer_forth, found_forth, from, later_within, passed_forth}
use Rattle.h5_selectors.proofs.TableLaws.{row_count}
use Rattle.h5_selectors.proofs.alike.alike_behind.Goals as goal

pub forth-init : goal.forth-init
forth-init g c =
    let f = g.T.Tree.forest c.args.query.now.tree.now in
    let rows = c.args.rows.now in
    let at = c.args.at in
    let ns = nodes_in g.T.Tree.number rows in
    let n = node_of g.T.Tree.number rows at in
    let beside = ((c.links-link.ensures g.T.Tree.number (context (g.T.Tree.forest c.args.query.now.tree.now) c.args.query.now.is_quirky (option_map g.T.Tree.number c.args.query.now.scope)) c.requires.rows).beside c.requires.some).2.next_is in
    (subst (λ count. IfSome c.links-link.result.next (λ q. (at < q) × (q < count))) (row_count g.T.Tree.number rows) (later_within f ns at at c.links-link.result.next (omega arith) beside), ap (filter (is_same_type f n)) (behind_are f ns at c.links-link.result.next beside))

pub forth-smaller : goal.forth-smaller
forth-smaller g c =
    let f = g.T.Tree.forest c.args.query.now.tree.now in
    let rows = c.args.rows.now in
    let at = c.args.at in
    let ns = nodes_in g.T.Tree.number rows in
    let n = node_of g.T.Tree.number rows at in
    let row = c.in-Some.row in
    let bounds : (at < row) × (row < length rows.ids.items) = (rw c.in-Some.is at c.forth.invariant.0) in
    let some : 0 < row = omega (arith, bounds.0) in
    let beside = ((c.links-link-in-Some.ensures g.T.Tree.number (context (g.T.Tree.forest c.args.query.now.tree.now) c.args.query.now.is_quirky (option_map g.T.Tree.number c.args.query.now.scope)) c.requires.rows).beside some).2.next_is in
    rw c.in-Some.is (fewer_forth f ns row (length rows.ids.items) c.links-link-in-Some.result.next (sym (row_count g.T.Tree.number rows)) bounds.1 beside)

pub forth-preserved : goal.forth-preserved
forth-preserved g c =
    let f = g.T.Tree.forest c.args.query.now.tree.now in
    let rows = c.args.rows.now in
    let at = c.args.at in
    let ns = nodes_in g.T.Tree.number rows in
    let n = node_of g.T.Tree.number rows at in
    let row = c.in-Some.row in
    let bounds : (at < row) × (row < length rows.ids.items) = (rw c.in-Some.is at c.forth.invariant.0) in
    let some : 0 < row = omega (arith, bounds.0) in
    let beside = ((c.links-link-in-Some.ensures g.T.Tree.number (context (g.T.Tree.forest c.args.query.now.tree.now) c.args.query.now.is_quirky (option_map g.T.Tree.number c.args.query.now.scope)) c.requires.rows).beside some).2.next_is in
    let told : c.is_alike.result ≡ is_same_type f n (node_of g.T.Tree.number rows row) = (rw (c.id-id.ensures g.T.Tree.number, c.id.ensures g.T.Tree.number) at c.is_alike.ensures) in
    let same : filter (is_same_type f n) (behind f n) ≡ filter (is_same_type f n) (from f ns (Some row)) = (rw c.in-Some.is at c.forth.invariant.1) in
    (subst (λ count. IfSome c.links-link-in-Some.result.next (λ q. (at < q) × (q < count))) (row_count g.T.Tree.number rows) (later_within f ns at row c.links-link-in-Some.result.next (omega (arith, bounds.0)) beside), same ∙ passed_forth f ns at row c.links-link-in-Some.result.next (sym told ∙ c.if-is_alike.false) beside)

pub returns-then-is_alike : goal.returns-then-is_alike
returns-then-is_alike g c =
    let f = g.T.Tree.forest c.args.query.now.tree.now in
    let rows = c.args.rows.now in
    let at = c.args.at in
    let ns = nodes_in g.T.Tree.number rows in
    let n = node_of g.T.Tree.number rows at in
    let row = c.in-Some.row in
    let bounds : (at < row) × (row < length rows.ids.items) = (rw c.in-Some.is at c.forth.invariant.0) in
    let same : filter (is_same_type f n) (behind f n) ≡ filter (is_same_type f n) (from f ns (Some row)) = (rw c.in-Some.is at c.forth.invariant.1) in
    let told : c.is_alike.result ≡ is_same_type f n (node_of g.T.Tree.number rows row) = (rw (c.id-id.ensures g.T.Tree.number, c.id.ensures g.T.Tree.number) at c.is_alike.ensures) in
    (bounds.0, bounds.1, ap length same ∙ found_forth f ns at row (sym told ∙ c.if-is_alike.true))
