use Rattle.std.proofs.Common.{◌≡◌, drop}
use Rattle.h5_names.specs.AttributeText.{attribute_texts}
use Rattle.h5_markup.specs.Attributes.{is_named_in}
use Rattle.h5_tokenizer_states.proofs.open_name.OpenName.is_in.Given as goal

abbrev pub invariant-loop-attribute : goal.invariant-loop-attribute
invariant-loop-attribute l =
    is_named_in l.name (attribute_texts (drop l.attribute-index l.attributes)) ≡ is_named_in l.name (attribute_texts l.attributes)
