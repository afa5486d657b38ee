use Rattle.std.proofs.Common.{◌∙◌, Some, ap, arith, refl}
use Rattle.h5_tree.proofs.AttributeLaws.{row_asked, row_passed, rows_all, rows_found}
use Rattle.h5_tree.proofs.block_names.find_row.Goals as goal

pub returns-then-is_named : goal.returns-then-is_named
returns-then-is_named c =
    let b = c.args.view.now.block.now in
    let match = row_asked b c.args.id c.args.ns.now c.args.local.now c.loop-index.index c.row_name.result c.is_named.result _ c.row_name.ensures c.is_named.ensures c.if-is_named.true in
    ap Some c.row_value.ensures
    ∙ rows_found b c.args.id c.args.ns.now c.args.local.now c.loop-index.index c.requires match (omega (arith, c.loop-index-test.true, c.row_count-index-end.ensures)) c.loop-index.invariant

pub loop-index-preserved : goal.loop-index-preserved
loop-index-preserved c =
    let b = c.args.view.now.block.now in
    row_passed b c.args.id c.args.ns.now c.args.local.now c.loop-index.index
    (row_asked b c.args.id c.args.ns.now c.args.local.now c.loop-index.index c.row_name.result c.is_named.result _ c.row_name.ensures c.is_named.ensures c.if-is_named.false)
    c.loop-index.invariant

pub loop-index-init : goal.loop-index-init
loop-index-init c = refl

pub returns : goal.returns
returns c = rows_all c.args.view.now.block.now c.args.id c.args.ns.now c.args.local.now c.loop-index.index c.requires (omega (arith, c.loop-index-test.false, c.loop-index.auto.index-end, c.row_count-index-end.ensures)) c.loop-index.invariant
