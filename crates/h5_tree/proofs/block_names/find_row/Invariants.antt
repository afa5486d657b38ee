use Rattle.h5_tree.proofs.AttributeLaws.{IsNotBelow}
use Rattle.h5_tree.proofs.block_names.find_row.Given as goal

abbrev pub invariant-loop-index : goal.invariant-loop-index
invariant-loop-index l = IsNotBelow l.view.block.now l.id l.ns l.local l.index
