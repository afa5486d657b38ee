use Rattle.h5_commands.proofs.FrontLaws.{Wrote}
use Rattle.h5_commands.proofs.output.write_bytes.Given as goal

abbrev pub invariant-pieces : goal.invariant-pieces
invariant-pieces g l = Wrote (g.W.Write.contents l.fn.writer) (g.W.Write.contents l.writer) l.fn.bytes l.rest
