use Rattle.std.proofs.Common.{◌≡◌, ◌∷◌, ◌∙◌, ap, sym, drop, get_or, refl, arith}
use Rattle.h5_markup.proofs.QuotedLaws.{two_first, quoted_walk}
use Rattle.h5_markup.proofs.quoted.quoted_len.Goals as goal

pub returns-else-value-inner-clause-walked : goal.returns-else-value-inner-clause-walked
returns-else-value-inner-clause-walked c =
    let bytes = c.args.bytes.now in
    let name = c.first_index-name.result in
    let behind = c.split_at.result.1.now in
    let first : get_or behind 0 0 ≡ 61 = omega arith in
    let second : get_or behind 1 0 ≡ 34 = omega arith in
    let split : drop name bytes ≡ 61 ∷ 34 ∷ c.split_at-in-61.result.1.now =
    sym c.split_at.ensures.back ∙ two_first behind 61 34 (omega arith) first second ∙ ap (λ l. 61 ∷ 34 ∷ l) (sym c.split_at-in-61.ensures.back) in
    quoted_walk bytes c.split_at-in-61.result.1.now name c.first_byte-value.result _ (omega arith) c.first_index-name.ensures.within c.first_index-name.ensures.passed split
    (omega (arith, c.first_byte-value.ensures.within, c.if-value-inner.false)) c.first_byte-value.ensures.passed (c.first_byte-value.ensures.stops (omega (arith, c.first_byte-value.ensures.within, c.if-value-inner.false))) refl
