use Rattle.std.proofs.Common.{sym, ap, ◌∙◌}
use Rattle.std.specs.List.{list_any}
use Rattle.h5_names.specs.AttributeText.{attribute_text, attribute_texts, is_same_name}
use Rattle.h5_token.specs.TokenText.{tag_text}
use Rattle.h5_print.specs.Parts.{part_text}
use Rattle.h5_print.proofs.ItemLaws.{attributes_push, any_named, tag_there, tag_new}
use Rattle.h5_print.proofs.parts.tag_with.Goals as goal

pub returns-then-has_name : goal.returns-then-has_name
returns-then-has_name c =
    let attribute = c.in-Attribute.attribute in
    let found = any_named attribute.name c.args.tag.attrs.items ∙ ap (list_any (λ a. is_same_name a.name attribute.name)) (sym c.deref.ensures.value) ∙ sym c.has_name.ensures ∙ c.if-has_name.true in
    tag_there (tag_text c.args.tag) (part_text c.args.part) (attribute_text attribute) (ap part_text c.in-Attribute.is) found

pub returns-in_ok-push-in-Attribute : goal.returns-in_ok-push-in-Attribute
returns-in_ok-push-in-Attribute c =
    let attribute = c.in-Attribute.attribute in
    let none = any_named attribute.name c.args.tag.attrs.items ∙ ap (list_any (λ a. is_same_name a.name attribute.name)) (sym c.deref.ensures.value) ∙ sym c.has_name.ensures ∙ c.if-has_name.false in
    tag_new (tag_text c.args.tag) (part_text c.args.part) (attribute_text attribute) _ (ap part_text c.in-Attribute.is) none (ap attribute_texts c.in_ok-push-in-Attribute.ensures.items ∙ attributes_push c.args.tag.attrs.items attribute)
