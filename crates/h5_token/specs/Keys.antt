-- A text of a tag that is equal for all tags that are alike.
use Rattle.std.specs.Prelude.{◌≡◌, ℕ, List, ◌∷◌, ◌++◌}
use Rattle.std.specs.List.{flat_map}
use Rattle.std.specs.List.Sorted.{IsPermutation, IsSorted}
use Rattle.h5_names.specs.AttributeText.{AttributeText}
use Rattle.h5_names.specs.Laws.{attribute_order}
use Rattle.h5_token.specs.TokenText.{IsAlike, TagText}

-- the part of an attribute: its local name and its value, with a NUL before each
abbrev pub attribute_key : AttributeText → List ℕ
attribute_key a = (0 ∷ a.name.local) ++ 0 ∷ a.value

-- the key of a tag: its name, then its attributes in order
pub record IsKeyOf (tag : TagText) (key : List ℕ) : Type 0 where
  pub attrs : List AttributeText
  pub all : IsPermutation tag.attrs attrs
  pub sorted : IsSorted attribute_order attrs
  pub is : key ≡ tag.name ++ flat_map attribute_key attrs

-- tags that are alike have equal keys
abbrev pub KeysAreEqual : Type 0
KeysAreEqual = (x y : TagText) (key other : List ℕ) → IsAlike x y → IsKeyOf x key → IsKeyOf y other → key ≡ other
