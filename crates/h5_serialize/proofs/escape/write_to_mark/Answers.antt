use Rattle.std.proofs.Common.{◌∙◌, sym, ap, append_assoc, drop, subst, IsUtf8, refl, take-append-drop, ◌++◌}
use Rattle.h5_serialize.specs.Escape.{escape, escape_char}
use Rattle.h5_serialize.proofs.Escapes.{escape_append, escape_parts, appends_both, shorter_after}
use Rattle.h5_serialize.proofs.FrontLaws.{front_first, front_later, on_err}
use Rattle.h5_serialize.proofs.escape.write_to_mark.Goals as goal

pub returns-in_ok-write_char-in-Some-clause-text : goal.returns-in_ok-write_char-in-Some-clause-text
returns-in_ok-write_char-in-Some-clause-text g c =
    let text = c.args.text.now in
    let n = c.first_mark-n.result in
    let h = c.in-Some.ensures.steps in
    let back = c.split_at.ensures.back in
    let tail = subst IsUtf8 (c.as_bytes-tail.ensures.value ∙ back) c.as_bytes-tail.ensures.utf8 in
    let parts = sym back ∙ sym c.chars-chars.ensures.rest ∙ h.0 in
    let first = c.split_at.result.0.now in
    let head = subst IsUtf8 c.as_bytes-head.ensures.value c.as_bytes-head.ensures.utf8 in (
      escape c.args.attr_mode first ++ escape_char c.args.attr_mode c.in-Some.c,
      appends_both _ _ _ (escape c.args.attr_mode first) (escape_char c.args.attr_mode c.in-Some.c) _ c.in_ok-write_segment.ensures.text c.in_ok-write_char-in-Some.ensures.text refl,
      escape_parts c.args.attr_mode text first c.next.new.self.rest.now n c.in-Some.c head tail c.split_at.ensures.front parts ∙ ap (λ l. (escape c.args.attr_mode first ++ escape_char c.args.attr_mode c.in-Some.c) ++ escape c.args.attr_mode l) (sym c.as_str.ensures),
      shorter_after text n c.next.new.self.rest.now c.as_str.result.now c.in-Some.c parts c.as_str.ensures,
    )

pub returns-in_err-write_segment-clause-front : goal.returns-in_err-write_segment-clause-front
returns-in_err-write_segment-clause-front g c =
    let text = c.args.text.now in
    let n = c.first_mark-n.result in
    let first = c.split_at.result.0.now in
    let head = subst IsUtf8 c.as_bytes-head.ensures.value c.as_bytes-head.ensures.utf8 in
    let parts = sym (take-append-drop n text) ∙ ap (λ l. l ++ drop n text) (sym c.split_at.ensures.front) in
    let whole = ap (escape c.args.attr_mode) parts ∙ escape_append c.args.attr_mode first (drop n text) head in
    on_err _ (front_first (escape c.args.attr_mode first) (escape c.args.attr_mode (drop n text)) (escape c.args.attr_mode text) whole c.in_err-write_segment.ensures.text)

pub returns-in_err-write_char-in-Some-clause-front : goal.returns-in_err-write_char-in-Some-clause-front
returns-in_err-write_char-in-Some-clause-front g c =
    let text = c.args.text.now in
    let n = c.first_mark-n.result in
    let back = c.split_at.ensures.back in
    let tail = subst IsUtf8 (c.as_bytes-tail.ensures.value ∙ back) c.as_bytes-tail.ensures.utf8 in
    let parts = sym back ∙ sym c.chars-chars.ensures.rest ∙ c.in-Some.ensures.steps.0 in
    let first = c.split_at.result.0.now in
    let head = subst IsUtf8 c.as_bytes-head.ensures.value c.as_bytes-head.ensures.utf8 in
    let front = escape c.args.attr_mode first in
    let one = escape_char c.args.attr_mode c.in-Some.c in
    let behind = escape c.args.attr_mode c.next.new.self.rest.now in
    let whole = escape_parts c.args.attr_mode text first c.next.new.self.rest.now n c.in-Some.c head tail c.split_at.ensures.front parts ∙ append_assoc front one behind in
    on_err _ (front_later front (one ++ behind) (escape c.args.attr_mode text) whole c.in_ok-write_segment.ensures.text (front_first one behind (one ++ behind) refl c.in_err-write_char-in-Some.ensures.text))
