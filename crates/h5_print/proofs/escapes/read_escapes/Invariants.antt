use Rattle.std.proofs.Common.{◌≡◌, length, string_bytes}
use denote.Text.{Utf8}
use denote.Shadow.{shadow}
use Rattle.h5_print.specs.Escapes.{unescape}
use Rattle.h5_print.proofs.EscapeLaws.{onto}
use Rattle.h5_print.proofs.escapes.read_escapes.Given as goal

abbrev pub invariant-loop-front : goal.invariant-loop-front
invariant-loop-front l = record {
  utf8 : shadow (Utf8 l.rest);
  same : onto (string_bytes l.out) (unescape l.rest) ≡ unescape l.text;
}

abbrev pub decreases-loop-front : goal.decreases-loop-front
decreases-loop-front l = length l.rest
