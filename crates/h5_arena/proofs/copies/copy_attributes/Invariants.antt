use Rattle.std.proofs.Common.{◌≡◌, take}
use Rattle.h5_names.specs.AttributeText.{attribute_texts}
use Rattle.h5_arena.proofs.copies.copy_attributes.Given as goal

abbrev pub invariant-loop-attribute : goal.invariant-loop-attribute
invariant-loop-attribute l = attribute_texts l.copy.items ≡ attribute_texts (take l.attribute-index l.attrs)
