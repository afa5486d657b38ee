use Rattle.std.proofs.Common.{◌≡◌, ◌∙◌, ◌<◌, Some, arith, sym, rules}
use Rattle.h5_tree_block.specs.Block.{row_count_in}
use Rattle.h5_c.specs.ByName.{attribute_from}
use Rattle.h5_c.proofs.NameWalks.{row_next}
use Rattle.h5_c.proofs.by_name.attribute_named.Goals as goal

pub returns-in-Some : goal.returns-in-Some
returns-in-Some c =
    let b = c.args.view.now.block.now in
    let local = c.args.local.now in
    let before : c.loop-index.index < row_count_in b c.args.node = omega (arith, c.loop-index-test.true, c.row_count-index-end.ensures) in
    let is : attribute_from b local c.args.node (row_count_in b c.args.node) 0 ≡ Some c.in-Some.row =
    sym c.loop-index.invariant ∙ row_next b local c.args.node (row_count_in b c.args.node) c.loop-index.index (Some c.in-Some.row) before (sym c.in-Some.is ∙ c.row_if_named.ensures) in
    rw (is) (search rules)

pub loop-index-preserved : goal.loop-index-preserved
loop-index-preserved c =
    let b = c.args.view.now.block.now in
    let local = c.args.local.now in
    let before : c.loop-index.index < row_count_in b c.args.node = omega (arith, c.loop-index-test.true, c.row_count-index-end.ensures) in
    sym (row_next b local c.args.node (row_count_in b c.args.node) c.loop-index.index _ before (sym c.in_default.is ∙ c.row_if_named.ensures)) ∙ c.loop-index.invariant
