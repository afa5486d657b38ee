use Rattle.std.proofs.Common.{length}
use denote.Text.{Utf8}
use denote.Shadow.{shadow}
use Rattle.h5_serialize.specs.Escape.{escape}
use Rattle.h5_serialize.proofs.Escapes.{Wrote}
use Rattle.h5_serialize.proofs.escape.write_escaped.Given as goal

abbrev pub invariant-loop-after : goal.invariant-loop-after
invariant-loop-after g l = record {
  utf8 : shadow (Utf8 l.rest);
  wrote : Wrote (g.Wr.Write.contents l.fn.writer) (g.Wr.Write.contents l.writer) (escape l.attr_mode l.text) (escape l.attr_mode l.rest);
}

abbrev pub decreases-loop-after : goal.decreases-loop-after
decreases-loop-after g l = length l.rest
