use Rattle.std.proofs.Common.{◌∙◌, ap, take, sym, arith}
use Rattle.std.proofs.lemmas.List.{length-take-le}
use Rattle.h5_names.specs.AttributeText.{attribute_texts}
use Rattle.h5_markup.specs.Attributes.{is_named_in}
use Rattle.h5_markup.specs.declared.keeping.TheConstants.{FEW}
use Rattle.h5_markup.proofs.LaterLaws.{named_before, named_behind}
use Rattle.h5_markup.proofs.keeping.Keeping.is_named.Goals as goal

pub slice_bounds-is_named_in-end : goal.slice_bounds-is_named_in-end
slice_bounds-is_named_in-end c = sym (length-take-le FEW c.deref-2.result.now (omega arith))

pub returns-then-is_named_in : goal.returns-then-is_named_in
returns-then-is_named_in c =
    named_before FEW c.args.name.now c.args.self.now.attributes.items c.is_named_in-2.result
    (c.is_named_in-2.ensures ∙ ap (λ l. is_named_in c.args.name.now (attribute_texts (take FEW l))) c.deref-2.ensures.value) c.if-is_named_in.true

pub returns-else-is_named_in : goal.returns-else-is_named_in
returns-else-is_named_in c =
    c.contains.ensures
    ∙ named_behind FEW c.args.name.now c.args.self.now.attributes.items c.args.self.now.later c.is_named_in-2.result
    (c.is_named_in-2.ensures ∙ ap (λ l. is_named_in c.args.name.now (attribute_texts (take FEW l))) c.deref-2.ensures.value) c.if-is_named_in.false c.args.self.now.later_names
