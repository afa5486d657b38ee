use Rattle.std.proofs.Common.{◌≡◌, false, length}
use denote.Text.{Utf8}
use denote.Shadow.{shadow}
use Rattle.h5_plain_tokenizer.specs.Steps.{place_of, Pending}
use Rattle.h5_plain_tokenizer.proofs.RunLaws.{Went}
use Rattle.h5_plain_tokenizer.proofs.run.run.Given as goal

abbrev pub invariant-steps : goal.invariant-steps
invariant-steps g l = record {
  utf8 : shadow (Utf8 l.rest);
  started : l.state.at_start ≡ false;
  pending : Pending l.search l.state.mode l.state.last l.rest;
  went : Went g.S.TokenSink.reply_to g.S.TokenSink.after g.S.TokenSink.is_foreign
      (place_of l.fn.state) (g.S.TokenSink.meaning l.fn.sink) l.text
      (place_of l.state) (g.S.TokenSink.meaning l.sink) l.rest;
}

abbrev pub decreases-steps : goal.decreases-steps
decreases-steps g l = length l.rest
