use Rattle.std.proofs.Common.{◌≡◌, ◌++◌, ◌∙◌, List, ap, drop, subst, take}
use Rattle.std.proofs.lemmas.List.{take_rest}
use Rattle.h5_names.specs.AttributeText.{attribute_texts}
use Rattle.h5_names.specs.declared.qualified.Attribute.{Attribute}
use Rattle.h5_arena.specs.AttributeNames.{AreNames}
use Rattle.h5_arena.proofs.AttributeNameLaws.{names_of_all}
use Rattle.h5_arena.proofs.attribute_names.AttributeNames.add_missing.Goals as goal

-- the names that were there, and those of the attributes that were added
pub returns-in_default-clause-names : goal.returns-in_default-clause-names
returns-in_default-clause-names c =
    let known = (rw (c.in-Some.is, c.as_slice.ensures.value) at c.in_ok-taken.ensures.taken) in
    let first : take c.len-had.result c.add_missing.new.attrs.items ≡ c.args.attrs.now.items = ap (λ k. take k c.add_missing.new.attrs.items) c.len-had.ensures ∙ c.in_ok-add_missing.ensures.first in
    λ found e.
    names_of_all found c.args.attrs.now.items c.add_missing.new.attrs.items c.len-had.result first
    (subst (λ (xs : List Attribute). AreNames found (attribute_texts c.args.attrs.now.items ++ attribute_texts xs)) (take_rest c.deref.result.now c.len-had.result ∙ ap (drop c.len-had.result) c.deref.ensures.value)
    (c.in_default.ensures.ok (attribute_texts c.args.attrs.now.items) known found e))
