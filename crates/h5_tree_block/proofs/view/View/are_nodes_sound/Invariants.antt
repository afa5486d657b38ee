use Rattle.std.proofs.Common.{◌≡◌, true}
use Rattle.h5_tree_block.specs.Sound.{all_below, is_node_sound}
use Rattle.h5_tree_block.proofs.view.View.are_nodes_sound.Given as goal

abbrev pub invariant-loop-node : goal.invariant-loop-node
invariant-loop-node l = all_below (is_node_sound l.self.block.now) l.node ≡ true
