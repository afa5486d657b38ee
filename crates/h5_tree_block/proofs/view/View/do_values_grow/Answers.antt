use Rattle.std.proofs.Common.{refl, rules, sym}
use Rattle.h5_tree_block.specs.Block as b
use Rattle.h5_tree_block.specs.Sound.{does_grow}
use Rattle.h5_tree_block.proofs.SoundLaws.{one_fails, one_more}
use Rattle.h5_tree_block.proofs.view.View.do_values_grow.Goals as goal

pub loop-row-init : goal.loop-row-init
loop-row-init c = refl

pub returns-then-value_end-value_begin : goal.returns-then-value_end-value_begin
returns-then-value_end-value_begin c =
    let block = c.args.self.now.block.now in
    sym (one_fails (does_grow block (b.row_ends_at (b.nodes_in block) (b.rows_in block))) (b.rows_in block) c.loop-row.row (search rules) (search rules))

pub loop-row-preserved : goal.loop-row-preserved
loop-row-preserved c =
    let block = c.args.self.now.block.now in
    one_more (does_grow block (b.row_ends_at (b.nodes_in block) (b.rows_in block))) c.loop-row.row c.loop-row.invariant (search rules)
