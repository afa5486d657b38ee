use Rattle.std.proofs.Common.{◌≡◌, ◌+◌, ◌-◌}
use Rattle.h5_tree_block.specs.Block.{nodes_in}
use Rattle.h5_c.specs.ByName.{element_from}
use Rattle.h5_c.proofs.by_name.next_named.Given as goal

abbrev pub invariant-loop-next : goal.invariant-loop-next
invariant-loop-next l = element_from l.view.block.now l.local (nodes_in l.view.block.now - l.next) l.next ≡ element_from l.view.block.now l.local (nodes_in l.view.block.now - (l.node + 1)) (l.node + 1)
