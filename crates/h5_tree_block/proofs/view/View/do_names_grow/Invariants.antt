use Rattle.std.proofs.Common.{◌≡◌, true}
use Rattle.h5_tree_block.specs.Block as b
use Rattle.h5_tree_block.specs.Sound.{all_below, does_grow}
use Rattle.h5_tree_block.proofs.view.View.do_names_grow.Given as goal

abbrev pub invariant-loop-name : goal.invariant-loop-name
invariant-loop-name l = all_below (does_grow l.self.block.now (b.name_ends_at l.self.block.now)) l.name ≡ true
