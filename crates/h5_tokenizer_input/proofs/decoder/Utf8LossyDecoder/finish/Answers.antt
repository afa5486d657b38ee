use Rattle.std.proofs.Common.{◌≡◌, ◌<◌, length, subst, sym, rules}
use Rattle.std.proofs.lemmas.Str.{utf8_lossy_empty}
use Rattle.h5_tokenizer_input.specs.Decoding.{IsUnfinished}
use Rattle.h5_tokenizer_input.proofs.Errors.{unfinished_at_end}
use Rattle.h5_tokenizer_input.proofs.decoder.Utf8LossyDecoder.finish.Goals as goal

pub returns-then-is_empty : goal.returns-then-is_empty
returns-then-is_empty c =
    let none : length c.args.self ≡ 0 = search rules in
    sym (utf8_lossy_empty c.args.self none)

pub returns : goal.returns
returns c =
    let some : 0 < length c.args.self = search rules in
    let kept = subst IsUnfinished c.self.view_is c.self.invariant in
    sym (unfinished_at_end c.args.self kept.no_char kept.no_error some)
