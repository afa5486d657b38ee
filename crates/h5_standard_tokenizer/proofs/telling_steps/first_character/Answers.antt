use Rattle.std.proofs.Common.{◌+◌, ◌++◌, IsUtf8, ap, arith, subst, sym, ◌≡◌, ◌∙◌}
use Rattle.std.proofs.lemmas.Str.{IsCharBoundary-past_char}
use Rattle.std.specs.Char.{len_utf8}
use Rattle.std.specs.Prelude.{encode_utf8}
use Rattle.std.specs.Str.{IsCharBoundary}
use Rattle.h5_standard_tokenizer.proofs.EncodingLaws.{first_dropped, first_taken}
use Rattle.h5_standard_tokenizer.proofs.telling_steps.first_character.Goals as goal

pub split_at-requires : goal.split_at-requires
split_at-requires c =
    let rest = c.args.rest.now in
    let parts = sym c.chars-chars.ensures.rest ∙ c.in-Some.ensures.steps.0 in
    let past = IsCharBoundary-past_char rest c.next.new.self.rest.now 0 c.in-Some.c (omega arith) (subst IsUtf8 c.as_bytes-bytes.ensures.value c.as_bytes-bytes.ensures.utf8) parts in
    let same : 0 + len_utf8 c.in-Some.c ≡ c.len_utf8.result = omega (arith, c.len_utf8.ensures.value) in
    subst (IsCharBoundary rest) same past

pub returns-in-Some-clause-front : goal.returns-in-Some-clause-front
returns-in-Some-clause-front c =
    let parts = sym c.chars-chars.ensures.rest ∙ c.in-Some.ensures.steps.0 in
    c.split_at.ensures.front ∙ first_taken c.in-Some.c c.len_utf8.result c.args.rest.now c.next.new.self.rest.now parts c.len_utf8.ensures.value

pub returns-in-Some-clause-rest : goal.returns-in-Some-clause-rest
returns-in-Some-clause-rest c =
    let parts = sym c.chars-chars.ensures.rest ∙ c.in-Some.ensures.steps.0 in
    let back = c.split_at.ensures.back ∙ first_dropped c.in-Some.c c.len_utf8.result c.args.rest.now c.next.new.self.rest.now parts c.len_utf8.ensures.value in
    parts ∙ ap (λ l. encode_utf8 c.in-Some.c ++ l) (sym back)
