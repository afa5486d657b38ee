use Rattle.std.proofs.Common.{length, string_bytes}
use denote.Text.{Utf8}
use denote.Shadow.{shadow}
use Rattle.h5_plain_tokenizer.specs.Steps.{TakesMany}
use Rattle.h5_plain_tokenizer.proofs.plain.take_texts.Given as goal

abbrev pub invariant-loop-after : goal.invariant-loop-after
invariant-loop-after l = record {
  utf8 : shadow (Utf8 l.rest);
  bits : TakesMany l.mode l.last l.text l.rest (string_bytes l.fn.out) (string_bytes l.out);
}

abbrev pub decreases-loop-after : goal.decreases-loop-after
decreases-loop-after l = length l.rest
