use Rattle.h5_tree_block.proofs.HtmlLaws.{AreWritten}
use Rattle.h5_tree_block.proofs.view.View.write.Given as goal

-- each turn writes one node
abbrev pub invariant-loop-node : goal.invariant-loop-node
invariant-loop-node l = AreWritten l.self.block.now l.from l.to l.initial.html l.node l.begun.items l.html
