use Rattle.std.proofs.Common.{◌≡◌, drop}
use Rattle.h5_names.specs.AttributeText.{attribute_texts}
use Rattle.h5_tree.specs.Elements.{value_in}
use Rattle.h5_tree.proofs.of_arena.value_in.Given as goal

abbrev pub invariant-loop-attribute : goal.invariant-loop-attribute
invariant-loop-attribute l = value_in l.ns l.local (attribute_texts (drop l.attribute-index l.attrs)) ≡ value_in l.ns l.local (attribute_texts l.attrs)
