use Rattle.std.proofs.Common.{◌≡◌, ◌++◌, drop}
use Rattle.h5_tree_block.specs.Packed.{bytes_of_words}
use Rattle.h5_tree_block.proofs.pack.put_all.Given as goal

abbrev pub invariant-loop-word : goal.invariant-loop-word
invariant-loop-word l = l.block.items ++ bytes_of_words (drop l.word-index l.words) ≡ l.initial.block.items ++ bytes_of_words l.words
