use Rattle.std.proofs.Common.{◌≡◌, ◌∙◌, ap, sym, get_or, subst, arith, IsUtf8}
use Rattle.std.proofs.lemmas.Str.{IsCharBoundary-after_ascii}
use Rattle.h5_markup.proofs.attributes.cut_attribute.Goals as goal

pub split_at-requires : goal.split_at-requires
split_at-requires c =
    let behind = c.cut_name.result.1.now in
    let quote : get_or c.as_bytes.result.now 1 0 ≡ 34 = omega arith in
    let second : get_or behind 1 0 ≡ 34 = ap (λ l. get_or l 1 0) (sym c.as_bytes.ensures.value) ∙ quote in
    IsCharBoundary-after_ascii behind 1 (subst IsUtf8 c.as_bytes.ensures.value c.as_bytes.ensures.utf8) (omega (arith, c.as_bytes.ensures.len)) (omega arith)
