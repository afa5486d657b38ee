use denote.Text.{Utf8}
use denote.Shadow.{shadow}
use Rattle.std.proofs.Common.{string_bytes}
use Rattle.h5_tokenizer_states.specs.MachineText.{place_of}
use Rattle.h5_standard_tokenizer.specs.Steps.{Holds}
use Rattle.h5_standard_tokenizer.specs.Weight.{weight}
use Rattle.h5_standard_tokenizer.proofs.steps.read_piece.Given as goal

abbrev pub invariant-steps : goal.invariant-steps
invariant-steps g l = record {
  utf8 : shadow (Utf8 l.rest);
  holds : Holds g.S.TokenSink.reply_to g.S.TokenSink.after g.S.TokenSink.is_foreign
      (place_of l.fn.machine) (g.S.TokenSink.meaning l.fn.sink) l.piece (string_bytes l.emitted.text) l.emitted.line
      (place_of l.machine) (g.S.TokenSink.meaning l.sink) l.rest;
}

abbrev pub decreases-steps : goal.decreases-steps
decreases-steps g l = weight (place_of l.machine) l.rest
