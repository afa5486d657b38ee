use Rattle.std.proofs.Common.{sym, ◌∙◌}
use Rattle.h5_names.specs.AttributeText.{attribute_texts, is_same_attribute}
use Rattle.h5_names.proofs.AttributeLemmas.{same_attribute}
use Rattle.h5_token.specs.Lent.{lent_text, lent_texts}
use Rattle.h5_token.proofs.SortedAttributes.{same_in_order}
use Rattle.h5_token.proofs.TextEquality.{lists_decide}
use Rattle.h5_token.proofs.alike.are_equal_in_order.Goals as goal

pub returns : goal.returns
returns c =
    let left = c.in_ok-left.left.items in
    let right = c.in_ok-right.right.items in
    let law = same_in_order (attribute_texts c.args.left.now) (attribute_texts c.args.right.now) (lent_texts left) (lent_texts right) c.in_ok-left.ensures.all c.in_ok-right.ensures.all c.in_ok-left.ensures.sorted c.in_ok-right.ensures.sorted in
    let decides = lists_decide {eq = λ x y. is_same_attribute (lent_text x) (lent_text y)} lent_text (λ x y. same_attribute (lent_text x) (lent_text y)) left right in
    (λ h. law.0 (decides.0 (sym c.eq.ensures ∙ h)), λ h. c.eq.ensures ∙ decides.1 (law.1 h))
