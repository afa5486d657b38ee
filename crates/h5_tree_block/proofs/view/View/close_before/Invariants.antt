use Rattle.std.proofs.Common.{◌≡◌, ◌+◌, length}
use Rattle.h5_tree_block.proofs.HtmlLaws.{AreEnded}
use Rattle.h5_tree_block.proofs.view.View.close_before.Given as goal

-- each turn ends one more
abbrev pub invariant-loop-step : goal.invariant-loop-step
invariant-loop-step l = AreEnded l.self.block.now l.node l.initial.begun.items l.initial.html l.begun.items l.html × (length l.begun.items + l._step ≡ length l.initial.begun.items)
