use Rattle.std.proofs.Common.{Some, None, subst, IsUtf8, lit<, string_bytes}
use Rattle.std.proofs.lemmas.Str.Pattern.{split_parts}
use Rattle.h5_page.proofs.WrapLaws.{next_word, last_word}
use Rattle.h5_page.proofs.wrap.write_words.Goals as goal
use Rattle.std.proofs.Common.{◌∙◌}

pub loop-word-preserved : goal.loop-word-preserved
loop-word-preserved c =
    let parts = split_parts 32 c.loop-word.rest.now (Some (c.in-Some.word, c.in-Some.behind)) c.in-Some.ensures.cases (lit< tt) in
    record {
      utf8 = subst IsUtf8 c.as_bytes-bytes.ensures.value c.as_bytes-bytes.ensures.utf8;
      same = next_word c.args.width c.args.hang c.loop-word.left c.in_ok-left.left (string_bytes c.loop-word.lines) (string_bytes c.write_word.new.lines) c.loop-word.rest.now c.in-Some.word.now c.in-Some.behind.now parts.0 parts.1 c.in_ok-left.ensures.text c.in_ok-left.ensures.room
          ∙ c.loop-word.invariant.same;
    }

pub returns : goal.returns
returns c =
    last_word c.args.width c.args.hang c.loop-word.left (string_bytes c.loop-word.lines) (string_bytes c.write_word-2.new.lines) c.loop-word.rest.now
    (split_parts 32 c.loop-word.rest.now None c.in_default.ensures.cases (lit< tt)) c.in_ok-write_word.ensures.text
    ∙ c.loop-word.invariant.same
