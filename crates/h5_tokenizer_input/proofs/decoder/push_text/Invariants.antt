use Rattle.std.proofs.Common.{◌≤◌, ◌-◌, length, drop, string_bytes}
use Rattle.h5_tokenizer_input.specs.Decoding.{Appends}
use Rattle.h5_tokenizer_input.proofs.decoder.push_text.Given as goal

abbrev pub invariant-errors : goal.invariant-errors
invariant-errors l = record {
  within : l.taken ≤ length l.bytes;
  appends : Appends l.bytes (drop l.taken l.bytes) (string_bytes l.fn.text) (string_bytes l.text);
}

abbrev pub decreases-errors : goal.decreases-errors
decreases-errors l = length l.bytes - l.taken
