use Rattle.std.proofs.Common.{◌≡◌, ◌++◌, string_bytes, take}
use Rattle.std.specs.List.{flat_map}
use Rattle.h5_token.specs.Keys.{attribute_key}
use Rattle.h5_token.specs.Lent.{lent_text}
use Rattle.h5_token.proofs.key.tag_key.Given as goal

abbrev pub invariant-loop-attribute : goal.invariant-loop-attribute
invariant-loop-attribute l = string_bytes l.key ≡ l.tag.name ++ flat_map (λ x. attribute_key (lent_text x)) (take l.attribute-index l.attribute-items)
