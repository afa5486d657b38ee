-- A test of attributes is a test of their texts.
use Rattle.std.proofs.Common.{◌≡◌, Bool, List, [], ◌∷◌, ◌||◌, ap, refl}
use Rattle.std.specs.List.{list_any}
use Rattle.h5_names.specs.declared.qualified.Attribute.{Attribute}
use Rattle.h5_names.specs.AttributeText.{AttributeText, attribute_text, attribute_texts}

pub any_of_texts : (test : AttributeText → Bool) (xs : List Attribute) → list_any test (attribute_texts xs) ≡ list_any (λ a. test (attribute_text a)) xs
any_of_texts test [] = refl
any_of_texts test (x ∷ xs) = ap (λ b. test (attribute_text x) || b) (any_of_texts test xs)
