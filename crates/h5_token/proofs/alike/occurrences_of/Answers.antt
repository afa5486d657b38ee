use Rattle.std.proofs.Common.{◌≡◌, refl, sym, ◌∙◌, rules}
use Rattle.std.specs.Prelude.{count_by}
use Rattle.std.proofs.lemmas.List.Recursion.{is_count_by}
use Rattle.h5_names.specs.AttributeText.{attribute_text, attribute_texts, is_same_attribute}
use Rattle.h5_token.specs.Occurrences.{occurrences}
use Rattle.h5_token.proofs.alike.occurrences_of.Goals as goal

pub returns : goal.returns
returns c =
    let counted : c.count.result ≡ count_by (λ x. is_same_attribute (attribute_text x) (attribute_text c.args.attribute.now)) c.args.attrs.now = search rules in
    counted ∙ sym (is_count_by (λ xs. occurrences (attribute_text c.args.attribute.now) (attribute_texts xs)) (λ x. is_same_attribute (attribute_text x) (attribute_text c.args.attribute.now)) refl (λ x xs. refl) c.args.attrs.now)
