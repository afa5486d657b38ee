use Rattle.std.proofs.Common.{◌≡◌, ◌-◌}
use Rattle.h5_tree_block.specs.Block.{row_count_in}
use Rattle.h5_c.specs.ByName.{attribute_from}
use Rattle.h5_c.proofs.by_name.attribute_named.Given as goal

abbrev pub invariant-loop-index : goal.invariant-loop-index
invariant-loop-index l =
    let count = row_count_in l.view.block.now l.node in
    attribute_from l.view.block.now l.local l.node (count - l.index) l.index ≡ attribute_from l.view.block.now l.local l.node count 0
