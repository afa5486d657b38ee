use Rattle.std.proofs.Common.{◌++◌, None, Some, lit<, ap, ◌∙◌, append_assoc, rules, string_bytes}
use Rattle.std.proofs.lemmas.Str.Pattern.{split_parts}
use Rattle.h5_page.specs.Wrapped.{filled, words}
use Rattle.h5_page.proofs.WrapLaws.{more_wrapped, one_wrapped}
use Rattle.h5_page.proofs.wrap.write_wrapped.Goals as goal

pub returns-in_default : goal.returns-in_default
returns-in_default c =
    c.in_ok-push_str.ensures.bytes
    ∙ ap (λ l. string_bytes c.args.lines.now ++ l) (one_wrapped c.args.width c.args.hang c.args.line.now (split_parts 32 c.args.line.now None c.in_default.ensures.cases (lit< tt)))

pub returns : goal.returns
returns c =
    let parts = split_parts 32 c.args.line.now (Some (c.in-Some.word, c.in-Some.behind)) c.in-Some.ensures.cases (lit< tt) in
    let behind = filled c.args.width c.args.hang c.saturating_sub-room.result (words c.in-Some.behind.now) in
    c.in_ok-write_words.ensures
    ∙ ap (λ l. l ++ behind) c.in_ok-push_str-2.ensures.bytes
    ∙ append_assoc (string_bytes c.args.lines.now) c.in-Some.word.now behind
    ∙ ap (λ l. string_bytes c.args.lines.now ++ l) (more_wrapped c.args.width c.args.hang c.saturating_sub-room.result c.args.line.now c.in-Some.word.now c.in-Some.behind.now parts.0 parts.1 (search rules))
