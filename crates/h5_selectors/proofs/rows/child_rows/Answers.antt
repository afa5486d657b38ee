use Rattle.std.proofs.Common.{◌≡◌, ◌∙◌, ◌<◌, None, ap, arith, false, get_or, length, rules, sym, true}
use Rattle.std.proofs.lemmas.Bool.{eqb-true}
use Rattle.std.proofs.lemmas.List.Elements.{All-push}
use Rattle.h5_selectors.proofs.RowLaws.{lower_more, rising_more, row_found}
use Rattle.h5_selectors.proofs.rows.child_rows.Goals as goal

pub loop-child-preserved : goal.loop-child-preserved
loop-child-preserved g c = rw (c.in_ok-push.ensures.items) (
    let f = g.T.Tree.forest c.args.tree.now in
    let ids = c.args.ids.now in
    let found = c.loop-child.found.items in
    let row = c.loop-child.row in
    let had = c.loop-child.invariant in
    let within : row < length ids = omega arith in
    let both : (c.args.at < row) × (row < length ids) = (had.behind, within) in
    let longer = (c.requires.links row (record { parent = None; previous = None; next = None; first = None; knows_children = false; end = 0 }) (omega (arith, within, c.requires.count))).end in
    let told : c.is_same_node.result ≡ true = search rules in
    let same : g.T.Tree.number (get_or ids row c.index-ids-row.result) ≡ g.T.Tree.number (get_or c.args.children.now c.loop-child.child-index c.child-item.result) =
    ap g.T.Tree.number (sym c.index-ids-row.is) ∙ eqb-true (g.T.Tree.number c.index-ids-row.result) (g.T.Tree.number c.child-item.result) (sym c.is_same_node.ensures ∙ told) ∙ ap g.T.Tree.number c.child-item.is in
    record {
      found = row_found g.T.Tree.number f ids c.args.children.now found c.loop-child.child-index row c.index-ids-row.result c.child-item.result (omega (arith, c.loop-child-test.true)) within same had.found;
      rising = rising_more found row had.rising had.before;
      within = All-push (λ r. (c.args.at < r) × (r < length ids)) found row had.within both;
      before = lower_more found row _ had.before longer;
      behind = omega (arith, had.behind, longer);
    })
