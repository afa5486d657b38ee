use Rattle.std.proofs.Common.{◌≡◌, ◌-◌, ◌^◌, min, take}
use Rattle.std.specs.List.{sum_by}
use Rattle.h5_names.specs.AttributeText.{attribute_text}
use Rattle.h5_token.specs.Lent.{attribute_len}
use Rattle.h5_token.proofs.alike.texts_len.Given as goal

abbrev pub invariant-loop-attribute : goal.invariant-loop-attribute
invariant-loop-attribute l = l.len ≡ min (sum_by (λ a. attribute_len (attribute_text a)) (take l.attribute-index l.attrs)) (2 ^ 64 - 1)
