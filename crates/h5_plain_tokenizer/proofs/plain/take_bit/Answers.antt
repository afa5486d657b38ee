use Rattle.std.proofs.Common.{ap, ◌∙◌}
use Rattle.h5_markup.specs.Matching.{Found}
use Rattle.h5_markup.specs.MatchOf.{match_of}
use Rattle.h5_plain_tokenizer.specs.Openings.{opening_of}
use Rattle.h5_plain_tokenizer.proofs.PlainLaws.{takes_bit}
use Rattle.h5_plain_tokenizer.proofs.plain.take_bit.Goals as goal

pub returns-in_ok-push_str-in-Found-Gives-default : goal.returns-in_ok-push_str-in-Found-Gives-default
returns-in_ok-push_str-in-Found-Gives-default c = λ mode last foreign e. takes_bit {mode = mode} {last = last} foreign _ _ c.in-Found-Gives-default.bit.now _ _ (
    let is = c.in-Found-Gives-default.is in
    let part = rw is at c.in-Found-Gives-default.field-0-is in
    e ∙ ap (match_of opening_of) is ∙ ap (λ o. Found (opening_of o) c.in-Found-Gives-default.rest.now) part) c.in_ok-push_str-in-Found-Gives-default.ensures.bytes
