use Rattle.std.proofs.Common.{ap, sym, ◌∙◌, drop}
use Rattle.std.specs.Str.Lossy.{utf8_error_len}
use Rattle.h5_tokenizer_input.proofs.DecodingLaws.{no_error_in_text, stops_at_front}
use Rattle.h5_tokenizer_input.proofs.decoder.error_len.Goals as goal

pub returns-in-Ok-clause-value : goal.returns-in-Ok-clause-value
returns-in-Ok-clause-value c = sym (no_error_in_text c.args.bytes.now c.requires c.in-Ok.ensures.cases.1)

pub returns-in-Err-clause-value : goal.returns-in-Err-clause-value
returns-in-Err-clause-value c =
    c.error_len.ensures ∙ c.in-Err.ensures.fault
    ∙ ap (λ n. utf8_error_len (drop n c.args.bytes.now)) (stops_at_front c.args.bytes.now _ c.requires c.in-Err.ensures.cases.1)
