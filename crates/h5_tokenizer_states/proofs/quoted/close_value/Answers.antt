use Rattle.std.proofs.Common.{◌≡◌, ap, sym, ◌∙◌, get_or, arith}
use Rattle.std.proofs.lemmas.Str.{IsCharBoundary-after_ascii}
use Rattle.h5_tokenizer_states.proofs.quoted.close_value.Goals as goal

pub split_at-requires : goal.split_at-requires
split_at-requires c =
    let quote : get_or c.as_bytes.result.now 0 0 ≡ 34 = omega arith in
    let first : get_or c.args.text.now 0 0 ≡ 34 = ap (λ l. get_or l 0 0) (sym c.as_bytes.ensures.value) ∙ quote in
    IsCharBoundary-after_ascii c.args.text.now 0 c.utf8.text (omega (arith, c.as_bytes.ensures.len)) (omega arith)

pub split_at-requires-in-Single-eq39 : goal.split_at-requires-in-Single-eq39
split_at-requires-in-Single-eq39 c =
    let quote : get_or c.as_bytes.result.now 0 0 ≡ 39 = omega arith in
    let first : get_or c.args.text.now 0 0 ≡ 39 = ap (λ l. get_or l 0 0) (sym c.as_bytes.ensures.value) ∙ quote in
    IsCharBoundary-after_ascii c.args.text.now 0 c.utf8.text (omega (arith, c.as_bytes.ensures.len)) (omega arith)
