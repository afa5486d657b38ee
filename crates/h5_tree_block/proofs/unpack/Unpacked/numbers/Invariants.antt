use Rattle.std.proofs.Common.{◌≡◌, ◌++◌, map, Some}
use Rattle.h5_tree_block.specs.Unpacked.{id_of}
use Rattle.h5_tree_block.proofs.unpack.Unpacked.numbers.Given as goal

-- the nodes of the numbers so far, and those that are left, are all
abbrev pub invariant-loop-at : goal.invariant-loop-at
invariant-loop-at l = (map (id_of l.self) l.numbers.items ++ map Some l.left ≡ map Some l.found)
