use Rattle.std.proofs.Common.{◌≡◌, drop}
use Rattle.h5_names.specs.AttributeText.{attribute_texts}
use Rattle.h5_arena.specs.ArenaModel.{value_of}
use Rattle.h5_arena.proofs.attributes.value_of.Given as goal

abbrev pub invariant-loop-attribute : goal.invariant-loop-attribute
invariant-loop-attribute l = value_of l.local (attribute_texts (drop l.attribute-index l.attrs)) ≡ value_of l.local (attribute_texts l.attrs)
