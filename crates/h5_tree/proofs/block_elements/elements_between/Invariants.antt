use Rattle.std.proofs.Common.{◌≡◌, ◌-◌, ◌≤◌, ◌++◌}
use Rattle.h5_tree_block.specs.Block.{nodes_in}
use Rattle.h5_tree.specs.ElementNumbers.{elements_between}
use Rattle.h5_tree.proofs.block_elements.elements_between.Given as goal

abbrev pub invariant-loop-at : goal.invariant-loop-at
invariant-loop-at l =
    let block = l.tree.view.block.now in
    l.to ≤ nodes_in block → l.found.items ++ elements_between block l.at l.to ≡ elements_between block l.fn.from l.to

abbrev pub decreases-loop-at : goal.decreases-loop-at
decreases-loop-at l = l.to - l.at
