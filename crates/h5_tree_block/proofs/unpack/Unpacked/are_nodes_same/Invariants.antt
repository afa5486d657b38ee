use Rattle.std.proofs.Common.{◌≡◌, true}
use Rattle.h5_tree_block.specs.SameTree.{is_same_at}
use Rattle.h5_tree_block.specs.Sound.{all_below}
use Rattle.h5_tree_block.proofs.unpack.Unpacked.are_nodes_same.Given as goal

abbrev pub invariant-loop-number : goal.invariant-loop-number
invariant-loop-number l = all_below (is_same_at l.view.block.now l.self) l.number ≡ true
