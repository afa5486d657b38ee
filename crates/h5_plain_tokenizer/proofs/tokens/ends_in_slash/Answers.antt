use Rattle.std.proofs.Common.{◌≡◌, ◌+◌, ◌-◌, length, ap, ◌∙◌, arith, false-eqb}
use Rattle.h5_plain_tokenizer.specs.Tokens.{last_is}
use Rattle.h5_plain_tokenizer.proofs.TokenLaws.{last_byte}
use Rattle.h5_plain_tokenizer.proofs.tokens.ends_in_slash.Goals as goal

pub returns : goal.returns
returns c =
    let bytes = c.as_bytes-bytes.result.now in
    let some : length bytes - 1 + 1 ≡ length bytes = omega (arith, false-eqb _ 0 c.if-is_empty.ensures) in
    last_byte 47 bytes (length bytes - 1) some ∙ ap (last_is 47) c.as_bytes-bytes.ensures.value
