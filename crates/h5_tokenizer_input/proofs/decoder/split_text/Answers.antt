use Rattle.std.proofs.Common.{◌≡◌, length, ap, subst, sym, ◌∙◌}
use Rattle.std.specs.Str.{StartsWithNoChar}
use Rattle.std.specs.Str.Lossy.{utf8_valid_len}
use Rattle.h5_tokenizer_input.proofs.DecodingLaws.{no_char_behind_text, no_char_in_none}
use Rattle.h5_tokenizer_input.proofs.decoder.split_text.Goals as goal

pub returns-in-Some-clause-rest : goal.returns-in-Some-clause-rest
returns-in-Some-clause-rest c =
    let bytes = c.args.bytes.now in
    let size : length c.valid-text.result.now ≡ utf8_valid_len bytes =
    ap length c.valid-text.ensures ∙ c.in-Some.ensures.steps.3.0 ∙ ap utf8_valid_len c.utf8_chunks.ensures.rest in
    subst StartsWithNoChar (sym c.split_at.ensures.back) (no_char_behind_text bytes _ size)

pub returns-in-None-clause-rest : goal.returns-in-None-clause-rest
returns-in-None-clause-rest c = no_char_in_none c.args.bytes.now (sym c.utf8_chunks.ensures.len ∙ c.in-None.ensures.steps.0)
