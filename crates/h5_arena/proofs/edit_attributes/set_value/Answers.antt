use Rattle.std.proofs.Common.{◌∙◌, [], ap, sym}
use Rattle.std.specs.List.{position}
use Rattle.h5_names.specs.AttributeText.{attribute_text}
use Rattle.h5_arena.specs.Edits.{is_named, with_value}
use Rattle.h5_arena.proofs.EditLaws.{first_set, last_set}
use Rattle.h5_arena.proofs.edit_attributes.set_value.Goals as goal

pub returns-in-Some-clause-ok : goal.returns-in-Some-clause-ok
returns-in-Some-clause-ok c =
    first_set c.args.name.now c.args.value.now c.args.attrs.now.items c.in-Some.at c.index_mut-attribute.result.now _
    (ap (position (λ a. is_named c.args.name.now (attribute_text a))) (sym c.as_slice.ensures.value) ∙ sym c.place_of_named.ensures ∙ c.in-Some.is)
    c.index_mut-attribute.ensures.value (ap (λ v. record (attribute_text c.index_mut-attribute.result.now) { value = v }) c.in_ok-value.ensures.ok)

pub returns-in_ok-push-in-None-clause-ok : goal.returns-in_ok-push-in-None-clause-ok
returns-in_ok-push-in-None-clause-ok c =
    last_set c.args.name.now c.args.value.now c.args.attrs.now.items c.push.new.self.items c.in_ok-new_attribute-in-None.field-0
    (ap (position (λ a. is_named c.args.name.now (attribute_text a))) (sym c.as_slice.ensures.value) ∙ sym c.place_of_named.ensures ∙ c.in-None.is)
    c.in_ok-push-in-None.ensures.items
    (c.in_ok-new_attribute-in-None.ensures ∙ ap (λ v. with_value c.args.name.now v []) c.in_ok-value.ensures.ok)
