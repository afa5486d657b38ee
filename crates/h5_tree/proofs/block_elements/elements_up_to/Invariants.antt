use Rattle.std.proofs.Common.{◌≡◌, ◌-◌, ◌<◌, ◌++◌}
use Rattle.h5_tree_block.specs.Block.{nodes_in, parent_in}
use Rattle.h5_tree.specs.ElementNumbers.{IsBefore, elements_up_to}
use Rattle.h5_tree.proofs.block_elements.elements_up_to.Given as goal

abbrev pub invariant-loop-sibling : goal.invariant-loop-sibling
invariant-loop-sibling l =
    let block = l.tree.view.block.now in
    0 < l.id → l.id < nodes_in block → IsBefore block (parent_in block l.id) l.id l.fn.first
    → IsBefore block (parent_in block l.id) l.id l.sibling × (l.found.items ++ elements_up_to block (parent_in block l.id) l.id l.sibling ≡ elements_up_to block (parent_in block l.id) l.id l.fn.first)

abbrev pub decreases-loop-sibling : goal.decreases-loop-sibling
decreases-loop-sibling l = l.id - l.sibling
