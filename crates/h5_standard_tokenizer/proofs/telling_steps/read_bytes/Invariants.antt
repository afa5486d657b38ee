use denote.Text.{Utf8}
use denote.Shadow.{shadow}
use Rattle.std.proofs.Common.{string_bytes}
use Rattle.h5_tokenizer_spec.specs.Telling.{at_first}
use Rattle.h5_tokenizer_states.specs.MachineText.{place_of}
use Rattle.h5_standard_tokenizer.specs.Telling.{CameOn}
use Rattle.h5_standard_tokenizer.specs.Weight.{weight}
use Rattle.h5_standard_tokenizer.proofs.telling_steps.read_bytes.Given as goal

abbrev pub invariant-steps : goal.invariant-steps
invariant-steps g l = record {
  utf8 : shadow (Utf8 l.rest);
  came : CameOn g.S.TokenSink.reply_to g.S.TokenSink.after g.S.TokenSink.is_foreign g.E.ErrorSink.Told
      (at_first (place_of l.fn.machine) l.fn.spot (g.S.TokenSink.meaning l.fn.sink) l.piece) l.fn.errors (string_bytes l.emitted.text) l.emitted.line
      (place_of l.machine) l.spot (g.S.TokenSink.meaning l.sink) l.rest l.errors;
}

abbrev pub decreases-steps : goal.decreases-steps
decreases-steps g l = weight (place_of l.machine) l.rest
