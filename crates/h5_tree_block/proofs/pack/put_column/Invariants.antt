use Rattle.std.proofs.Common.{◌≡◌, ◌++◌, drop, take}
use Rattle.h5_tree_block.specs.Packed.{AreWords, bytes_of_words, column}
use Rattle.h5_tree_block.proofs.pack.put_column.Given as goal

abbrev pub invariant-loop-node : goal.invariant-loop-node
invariant-loop-node l = (l.block.items ++ bytes_of_words (column l.which (drop l.node-index l.nodes)) ≡ l.initial.block.items ++ bytes_of_words (column l.which l.nodes))
    × AreWords (column l.which (take l.node-index l.nodes))
