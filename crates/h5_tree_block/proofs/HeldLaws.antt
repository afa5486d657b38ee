-- The data between two calls.
use Rattle.std.proofs.Common.{◌≡◌, List, [], ◌∷◌, ◌++◌, refl}
use Rattle.h5_names.specs.AttributeText.{AttributeText}
use Rattle.h5_tree_block.specs.Columns.{Held, with_attribute, with_attributes}

pub attributes_more : (h : Held) (xs : List AttributeText) (a : AttributeText) → with_attributes h (xs ++ a ∷ []) ≡ with_attribute (with_attributes h xs) a
unfolding with_attributes
attributes_more h [] a = refl
attributes_more h (x ∷ xs) a = attributes_more (with_attribute h x) xs a

pub no_attributes : (h : Held) → with_attributes h [] ≡ h
unfolding with_attributes
no_attributes h = refl
