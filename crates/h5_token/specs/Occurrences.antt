-- Multisets of attributes.
use Rattle.std.specs.Prelude.{◌≡◌, ℕ, ◌+◌, if◌then◌else◌, List, [], ◌∷◌}
use Rattle.h5_names.specs.AttributeText.{AttributeText, is_same_attribute}

-- the number of times that an attribute occurs in a list
abbrev pub occurrences : AttributeText → List AttributeText → ℕ
occurrences a [] = 0
occurrences a (x ∷ xs) = if is_same_attribute x a then 1 + occurrences a xs else occurrences a xs

-- two lists have the same attributes, each equally often, in any order
abbrev pub HaveSameAttributes : List AttributeText → List AttributeText → Type 0
HaveSameAttributes xs ys = (a : AttributeText) → occurrences a xs ≡ occurrences a ys
