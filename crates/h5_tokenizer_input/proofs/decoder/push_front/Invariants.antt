use Rattle.std.proofs.Common.{◌++◌, length, string_bytes}
use Rattle.h5_tokenizer_input.specs.Decoding.{Appends, IsUnfinished}
use Rattle.h5_tokenizer_input.proofs.decoder.push_front.Given as goal

abbrev pub invariant-bytes : goal.invariant-bytes
invariant-bytes l = record {
  unfinished : IsUnfinished l.unfinished.items;
  appends : Appends (l.fn.unfinished.items ++ l.bytes) (l.unfinished.items ++ l.rest) (string_bytes l.fn.text) (string_bytes l.text);
}

abbrev pub decreases-bytes : goal.decreases-bytes
decreases-bytes l = length l.rest
