use Rattle.std.proofs.Common.{◌≡◌, drop}
use Rattle.h5_names.specs.AttributeText.{attribute_texts}
use Rattle.h5_token.specs.TokenText.{first_value}
use Rattle.h5_token.proofs.tag.Tag.get_attribute.Given as goal

abbrev pub invariant-loop-attribute : goal.invariant-loop-attribute
invariant-loop-attribute l =
    first_value l.name (attribute_texts (drop l.attribute-index l.self.attrs.items)) ≡ first_value l.name (attribute_texts l.self.attrs.items)
