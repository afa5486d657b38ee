use Rattle.std.proofs.Common.{◌≡◌, ◌∙◌, sym, ap, subst, append_assoc, arith, drop, ℕ, List, length, IsUtf8, take_all, refl, ◌≤◌, ◌++◌}
use Rattle.std.proofs.lemmas.Str.{IsCharBoundary-from_drop}
use Rattle.std.specs.Io.KnownBytes.{Appends}
use Rattle.h5_serialize.specs.Escape.{escape, escape_char}
use Rattle.h5_serialize.proofs.Escapes.{Clean, escape_split, escape_step, escape_last, appends_both, shorter_after, no_mark_left}
use Rattle.h5_serialize.proofs.FrontLaws.{front_first, front_later, on_err}
use Rattle.h5_serialize.proofs.escape.write_front.Goals as goal

pub returns-in-None-clause-text : goal.returns-in-None-clause-text
returns-in-None-clause-text g c =
    let text = c.args.text.now in
    let n = c.first_reference-n.result in
    let h = c.in-None.ensures.steps in
    let back = c.split_at.ensures.back in
    let le : n ≤ length text = omega (arith, c.first_reference-n.ensures.len, ap length c.as_bytes.ensures.value) in
    let all : n ≡ length text = omega (arith, h.0.0, c.split_at.ensures.back_len, ap length c.chars-chars.ensures.rest) in
    let P : List ℕ → Type 0 = λ l. Clean c.args.attr_mode l n in
    let plain = subst P c.as_bytes.ensures.value c.first_reference-n.ensures.plain in
    let whole = c.split_at.ensures.front ∙ take_all n text (omega arith) in
    let Q : List ℕ → Type 0 = λ l. Appends (g.Wr.Write.contents c.args.writer.now) (g.Wr.Write.contents c.write_verbatim.new.writer) l in
    subst Q (whole ∙ sym (escape_last c.args.attr_mode text n c.utf8.text all plain)) c.in_ok-write_verbatim.ensures.text

pub returns-in_ok-write_char-in-Some-clause-text : goal.returns-in_ok-write_char-in-Some-clause-text
returns-in_ok-write_char-in-Some-clause-text g c =
    let text = c.args.text.now in
    let n = c.first_reference-n.result in
    let h = c.in-Some.ensures.steps in
    let back = c.split_at.ensures.back in
    let le : n ≤ length text = omega (arith, c.first_reference-n.ensures.len, ap length c.as_bytes.ensures.value) in
    let P : List ℕ → Type 0 = λ l. Clean c.args.attr_mode l n in
    let plain = subst P c.as_bytes.ensures.value c.first_reference-n.ensures.plain in
    let tail = subst IsUtf8 (c.as_bytes-tail.ensures.value ∙ back) c.as_bytes-tail.ensures.utf8 in
    let parts = sym back ∙ sym c.chars-chars.ensures.rest ∙ h.0 in
    let front = c.split_at.ensures.front in
    let first = c.split_at.result.0.now in (
      first ++ escape_char c.args.attr_mode c.in-Some.c,
      appends_both _ _ _ first (escape_char c.args.attr_mode c.in-Some.c) _ c.in_ok-write_verbatim.ensures.text c.in_ok-write_char-in-Some.ensures.text refl,
      escape_step c.args.attr_mode text n first c.next.new.self.rest.now c.in-Some.c c.utf8.text tail (IsCharBoundary-from_drop text n le tail) plain front parts ∙ ap (λ l. (first ++ escape_char c.args.attr_mode c.in-Some.c) ++ escape c.args.attr_mode l) (sym c.as_str.ensures),
      shorter_after text n c.next.new.self.rest.now c.as_str.result.now c.in-Some.c parts c.as_str.ensures,
      no_mark_left text c.next.new.self.rest.now c.as_str.result.now n c.in-Some.c c.requires parts c.as_str.ensures,
    )

pub returns-in_err-write_verbatim-clause-front : goal.returns-in_err-write_verbatim-clause-front
returns-in_err-write_verbatim-clause-front g c =
    let text = c.args.text.now in
    let n = c.first_reference-n.result in
    let le : n ≤ length text = omega (arith, c.first_reference-n.ensures.len, ap length c.as_bytes.ensures.value) in
    let P : List ℕ → Type 0 = λ l. Clean c.args.attr_mode l n in
    let plain = subst P c.as_bytes.ensures.value c.first_reference-n.ensures.plain in
    let tail = subst IsUtf8 (c.as_bytes-tail.ensures.value ∙ c.split_at.ensures.back) c.as_bytes-tail.ensures.utf8 in
    let behind = escape c.args.attr_mode (drop n text) in
    let parts = escape_split c.args.attr_mode text n c.utf8.text (IsCharBoundary-from_drop text n le tail) plain ∙ ap (λ l. l ++ behind) (sym c.split_at.ensures.front) in
    on_err _ (front_first c.split_at.result.0.now behind (escape c.args.attr_mode text) parts c.in_err-write_verbatim.ensures.text)

pub returns-in_err-write_char-in-Some-clause-front : goal.returns-in_err-write_char-in-Some-clause-front
returns-in_err-write_char-in-Some-clause-front g c =
    let text = c.args.text.now in
    let n = c.first_reference-n.result in
    let back = c.split_at.ensures.back in
    let le : n ≤ length text = omega (arith, c.first_reference-n.ensures.len, ap length c.as_bytes.ensures.value) in
    let P : List ℕ → Type 0 = λ l. Clean c.args.attr_mode l n in
    let plain = subst P c.as_bytes.ensures.value c.first_reference-n.ensures.plain in
    let tail = subst IsUtf8 (c.as_bytes-tail.ensures.value ∙ back) c.as_bytes-tail.ensures.utf8 in
    let parts = sym back ∙ sym c.chars-chars.ensures.rest ∙ c.in-Some.ensures.steps.0 in
    let first = c.split_at.result.0.now in
    let one = escape_char c.args.attr_mode c.in-Some.c in
    let behind = escape c.args.attr_mode c.next.new.self.rest.now in
    let whole = escape_step c.args.attr_mode text n first c.next.new.self.rest.now c.in-Some.c c.utf8.text tail (IsCharBoundary-from_drop text n le tail) plain c.split_at.ensures.front parts ∙ append_assoc first one behind in
    on_err _ (front_later first (one ++ behind) (escape c.args.attr_mode text) whole c.in_ok-write_verbatim.ensures.text (front_first one behind (one ++ behind) refl c.in_err-write_char-in-Some.ensures.text))
