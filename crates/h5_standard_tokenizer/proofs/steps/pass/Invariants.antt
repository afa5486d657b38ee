use denote.Text.{Utf8}
use denote.Shadow.{shadow}
use Rattle.std.proofs.Common.{string_bytes}
use Rattle.h5_tokenizer_states.specs.MachineText.{place_of, PassesRun}
use Rattle.h5_standard_tokenizer.specs.Weight.{weight}
use Rattle.h5_standard_tokenizer.proofs.steps.pass.Given as goal

abbrev pub invariant-bytes : goal.invariant-bytes
invariant-bytes l = record {
  utf8 : shadow (Utf8 l.rest);
  passes : PassesRun l.fn.machine l.piece (string_bytes l.fn.out) (string_bytes l.out) l.machine l.rest;
}

abbrev pub decreases-bytes : goal.decreases-bytes
decreases-bytes l = weight (place_of l.machine) l.rest
