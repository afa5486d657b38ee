use Rattle.h5_serialize.proofs.Escapes.{Wrote}
use Rattle.h5_serialize.proofs.escape.write_rest.Given as goal

abbrev pub invariant-loop : goal.invariant-loop
invariant-loop g l = Wrote (g.Wr.Write.contents l.fn.writer) (g.Wr.Write.contents l.writer) l.bytes l.rest
