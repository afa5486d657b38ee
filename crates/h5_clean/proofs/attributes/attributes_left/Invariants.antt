use Rattle.std.proofs.Common.{◌≡◌, [], map}
use Rattle.h5_names.specs.AttributeText.{attribute_texts}
use Rattle.h5_clean.specs.Policies.{left_behind}
use Rattle.h5_clean.proofs.attributes.attributes_left.Given as goal

abbrev pub invariant-attributes : goal.invariant-attributes
invariant-attributes g l = attribute_texts l.left.items ≡ left_behind (g.P.Policy.rules l.policy) l.element [] (map g.T.AttrRef.attribute l.yielded)
