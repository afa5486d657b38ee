use Rattle.std.proofs.Common.{◌≡◌, drop}
use Rattle.h5_names.specs.AttributeText.{attribute_texts}
use Rattle.h5_builder_spec.specs.modes.Shared.{is_type_hidden}
use Rattle.h5_modes_body.proofs.hidden.is_type_hidden.Given as goal

-- what is left gives what was to come at first
abbrev pub invariant-loop-attribute : goal.invariant-loop-attribute
invariant-loop-attribute l = is_type_hidden (attribute_texts (drop l.attribute-index l.attrs)) ≡ is_type_hidden (attribute_texts l.attrs)
