use Rattle.std.proofs.Common.{◌≡◌, ◌++◌, drop, take}
use Rattle.h5_tree_block.specs.Packed.{AreWords, bytes_of_words, ended_column}
use Rattle.h5_tree_block.proofs.pack.put_ended.Given as goal

abbrev pub invariant-loop-one : goal.invariant-loop-one
invariant-loop-one l = (l.block.items ++ bytes_of_words (ended_column l.which (drop l.one-index l.list)) ≡ l.initial.block.items ++ bytes_of_words (ended_column l.which l.list))
    × AreWords (ended_column l.which (take l.one-index l.list))
