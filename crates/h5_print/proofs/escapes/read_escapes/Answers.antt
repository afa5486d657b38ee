use Rattle.std.proofs.Common.{Some, None, string_bytes, subst, IsUtf8, lit<}
use Rattle.std.proofs.lemmas.Str.Pattern.{split_parts}
use Rattle.h5_print.specs.Escapes.{unescape}
use Rattle.h5_print.proofs.EscapeLaws.{onto_empty, read_more, read_none, read_last}
use Rattle.h5_print.proofs.escapes.read_escapes.Goals as goal

pub loop-front-init : goal.loop-front-init
loop-front-init c = record {
  utf8 = c.utf8.text;
  same = onto_empty (string_bytes c.in_ok-out.out) (unescape c.args.text.now) c.in_ok-out.ensures.bytes;
}

pub returns-in_default-cut_letter : goal.returns-in_default-cut_letter
returns-in_default-cut_letter c =
    let parts = split_parts 92 c.loop-front.rest.now (Some (c.in-Some.front, c.in-Some.behind)) c.in-Some.ensures.cases (lit< tt) in
    read_none c.args.text.now c.loop-front.rest.now c.in-Some.front.now c.in-Some.behind.now (string_bytes c.loop-front.out) parts.0 parts.1 c.in_default-cut_letter.ensures c.loop-front.invariant.same

pub loop-front-preserved : goal.loop-front-preserved
loop-front-preserved c =
    let parts = split_parts 92 c.loop-front.rest.now (Some (c.in-Some.front, c.in-Some.behind)) c.in-Some.ensures.cases (lit< tt) in
    let found = c.in-Some-cut_letter.ensures in
    record {
      utf8 = subst IsUtf8 c.as_bytes-bytes.ensures.value c.as_bytes-bytes.ensures.utf8;
      same = read_more c.args.text.now c.loop-front.rest.now c.in-Some.front.now c.in-Some.behind.now c.in-Some-cut_letter.after.now (string_bytes c.loop-front.out) (string_bytes c.push_str.new.self) (string_bytes c.push.new.self) c.in-Some-cut_letter.c parts.0 parts.1 found.0 c.in_ok-push_str.ensures.bytes c.in_ok-push.ensures.bytes found.1 c.loop-front.invariant.same;
    }

pub returns : goal.returns
returns c =
    let none = split_parts 92 c.loop-front.rest.now None c.in_default.ensures.cases (lit< tt) in
    read_last c.args.text.now c.loop-front.rest.now (string_bytes c.loop-front.out) (string_bytes c.push_str-2.new.self) none c.in_ok-push_str-2.ensures.bytes c.loop-front.invariant.same
