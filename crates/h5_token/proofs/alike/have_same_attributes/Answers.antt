use Rattle.std.proofs.Common.{◌-◌, ◌^◌, min, ap, sym, ◌∙◌, refl}
use Rattle.std.proofs.lemmas.List.{length-map}
use Rattle.h5_names.specs.AttributeText.{attribute_text, attribute_texts, is_same_attribute}
use Rattle.h5_names.proofs.AttributeLemmas.{same_attribute}
use Rattle.h5_token.specs.Lent.{attribute_len}
use Rattle.h5_token.specs.Occurrences.{occurrences}
use Rattle.h5_token.proofs.SortedAttributes.{same_length, same_sum}
use Rattle.h5_token.proofs.TextEquality.{lists_decide}
use Rattle.h5_token.proofs.alike.have_same_attributes.Goals as goal

pub returns-then-eq : goal.returns-then-eq
returns-then-eq c =
    let left = c.args.left.now in
    let right = c.args.right.now in
    let decides = lists_decide {eq = λ x y. is_same_attribute (attribute_text x) (attribute_text y)} attribute_text (λ x y. same_attribute (attribute_text x) (attribute_text y)) left right in
    (λ h a. ap (λ texts. occurrences a texts) (decides.0 (sym c.eq.ensures ∙ c.if-eq.true)), λ h. refl)

pub returns-then-left-right : goal.returns-then-left-right
returns-then-left-right c =
    let left = c.args.left.now in
    let right = c.args.right.now in
    (λ h. absurd (let f : ⊥ = cc in f), λ h. absurd (c.if-left-right.true (sym (sym (length-map right attribute_text) ∙ same_length (attribute_texts left) (attribute_texts right) h ∙ length-map left attribute_text))))

pub returns-then-texts_len : goal.returns-then-texts_len
returns-then-texts_len c =
    let left = attribute_texts c.args.left.now in
    let right = attribute_texts c.args.right.now in
    (λ h. absurd (let f : ⊥ = cc in f), λ h. absurd (c.if-texts_len.true (c.texts_len.ensures ∙ ap (λ n. min n (2 ^ 64 - 1)) (same_sum attribute_len left right h) ∙ sym c.texts_len-2.ensures)))
