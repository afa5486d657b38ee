use Rattle.std.proofs.Common.{◌∙◌, ap, sym, subst, IsUtf8}
use Rattle.std.proofs.lemmas.Str.{IsUtf8-drop}
use Rattle.std.specs.Prelude.{Some}
use Rattle.memchr.specs.Find.{IsFirstByte, is_byte2}
use Rattle.h5_tables.specs.MetaEncoding.{after_charset}
use Rattle.h5_tables.proofs.Charset.{declared_here, declared_later, letter_there, next_is, no_more, text_there}
use Rattle.h5_tables.proofs.meta_encoding.after_charset.Goals as goal

pub returns-in-Some-after_declaration : goal.returns-in-Some-after_declaration
returns-in-Some-after_declaration c =
    let at : IsFirstByte (is_byte2 99 67) c.loop-n.unread.now (Some c.in-Some.n) = rw c.as_bytes.ensures.value at c.in-Some.ensures in
    let there = rw (sym c.split_at.ensures.back) at (letter_there c.loop-n.unread.now c.in-Some.n at) in
    let same = c.loop-n.invariant.1 ∙ next_is c.loop-n.unread.now c.in-Some.n at ∙ ap after_charset (sym c.split_at.ensures.back) in
    sym (same ∙ declared_here c.split_at.result.1.now _ there.0 (sym c.in-Some-after_declaration.ensures))

pub split_at-requires-in-Some : goal.split_at-requires-in-Some
split_at-requires-in-Some c =
    let at : IsFirstByte (is_byte2 99 67) c.loop-n.unread.now (Some c.in-Some.n) = rw c.as_bytes.ensures.value at c.in-Some.ensures in
    (text_there c.loop-n.unread.now c.split_at.result.1.now c.in-Some.n c.loop-n.invariant.0 at c.split_at.ensures.back).1

pub loop-n-preserved : goal.loop-n-preserved
loop-n-preserved c =
    let at : IsFirstByte (is_byte2 99 67) c.loop-n.unread.now (Some c.in-Some.n) = rw c.as_bytes.ensures.value at c.in-Some.ensures in
    let there = rw (sym c.split_at.ensures.back) at (letter_there c.loop-n.unread.now c.in-Some.n at) in
    let same = c.loop-n.invariant.1 ∙ next_is c.loop-n.unread.now c.in-Some.n at ∙ ap after_charset (sym c.split_at.ensures.back) in
    let text = text_there c.loop-n.unread.now c.split_at.result.1.now c.in-Some.n c.loop-n.invariant.0 at c.split_at.ensures.back in (
      subst IsUtf8 (sym c.split_at-in-Some.ensures.back) (IsUtf8-drop c.split_at.result.1.now 1 text.0 text.1),
      same ∙ declared_later c.split_at.result.1.now there.0 (sym c.in_default-after_declaration.ensures) ∙ ap after_charset (sym c.split_at-in-Some.ensures.back),
    )

pub returns : goal.returns
returns c = sym (c.loop-n.invariant.1 ∙ no_more c.loop-n.unread.now (rw c.as_bytes.ensures.value at c.in_default.ensures))
