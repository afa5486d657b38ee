use Rattle.std.proofs.Common.{subst, sym}
use Rattle.h5_tokenizer_input.specs.Decoding.{IsUnfinished}
use Rattle.h5_tokenizer_input.proofs.DecodingLaws.{nothing_unfinished}
use Rattle.h5_tokenizer_input.proofs.decoder.Utf8LossyDecoder.new.Goals as goal

pub invariant_of-result : goal.invariant_of-result
invariant_of-result c = subst IsUnfinished (sym c.new.ensures.items) nothing_unfinished
