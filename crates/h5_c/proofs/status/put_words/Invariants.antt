use Rattle.std.proofs.Common.{◌≡◌, ◌++◌, drop}
use Rattle.h5_tree_block.specs.Packed.{bytes_of_words}
use Rattle.h5_c.proofs.status.put_words.Given as goal

-- what was appended and what is left are the whole
abbrev pub invariant-loop-word : goal.invariant-loop-word
invariant-loop-word l = (l.bytes.items ++ bytes_of_words (drop l.word-index l.words) ≡ l.initial.bytes.items ++ bytes_of_words l.words)
