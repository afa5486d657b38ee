use Rattle.std.proofs.Common.{string_bytes}
use Rattle.h5_print.specs.Frames.{AreHeld}
use Rattle.h5_print.proofs.WritingLaws.{Sent}
use Rattle.h5_print.proofs.tree.write_tree.Given as goal

abbrev pub invariant-frames : goal.invariant-frames
invariant-frames g l = record {
  held : AreHeld l.arena l.stack.items;
  sent : Sent l.arena l.initial.stack.items l.stack.items (g.W.Write.contents l.initial.writer) (g.W.Write.contents l.writer) (string_bytes l.part);
}
