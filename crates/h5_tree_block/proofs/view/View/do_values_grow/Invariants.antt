use Rattle.std.proofs.Common.{◌≡◌, true}
use Rattle.h5_tree_block.specs.Block as b
use Rattle.h5_tree_block.specs.Sound.{all_below, does_grow}
use Rattle.h5_tree_block.proofs.view.View.do_values_grow.Given as goal

abbrev pub invariant-loop-row : goal.invariant-loop-row
invariant-loop-row l = all_below (does_grow l.self.block.now (b.row_ends_at (b.nodes_in l.self.block.now) (b.rows_in l.self.block.now))) l.row ≡ true
