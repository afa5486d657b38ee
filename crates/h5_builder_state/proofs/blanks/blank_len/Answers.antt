use Rattle.std.proofs.Common.{◌≡◌, true, ◌<◌, arith, refl, length, get_or, subst, sym, ◌∙◌}
use Rattle.std.proofs.lemmas.Str.{IsCharBoundary-start, IsCharBoundary-after_ascii}
use Rattle.h5_builder_spec.specs.Blanks.{is_blank}
use Rattle.h5_builder_state.proofs.TextLaws.{rest_of-more, blank_small}
use Rattle.h5_builder_state.proofs.blanks.blank_len.Goals as goal

pub loop-i-init : goal.loop-i-init
loop-i-init c = record { boundary = IsCharBoundary-start c.args.text.now c.utf8.text; blank = refl }

pub loop-i-preserved : goal.loop-i-preserved
loop-i-preserved c =
    let e : is_blank (get_or c.args.text.now c.loop-i.i 0) ≡ true =
    subst (λ s. is_blank (get_or s c.loop-i.i 0) ≡ true) c.as_bytes-b-items.ensures.value (sym c.is_blank_byte.ensures ∙ c.if-not-is_blank_byte.false) in
    let l : c.loop-i.i < length c.args.text.now = omega (arith, c.as_bytes-b-items.ensures.len) in
    record {
      boundary = IsCharBoundary-after_ascii c.args.text.now c.loop-i.i c.utf8.text l (blank_small _ e);
      blank = rest_of-more c.args.text.now c.loop-i.i l c.loop-i.invariant.blank e;
    }
