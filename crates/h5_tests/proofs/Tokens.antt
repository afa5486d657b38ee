-- Tags that are alike, and the first attribute of a name.
use Rattle.std.proofs.Common.{◌≡◌, ℕ, ◌+◌, Bool, true, false, List, [], ◌∷◌, if◌then◌else◌, refl, codes, Some, None, arith}
use Rattle.h5_names.specs.AttributeText.{AttributeText, is_same_attribute}
use Rattle.h5_names.specs.KnownNames.{name_text}
use Rattle.h5_names.specs.declared.known_name.KnownName.TheVariants.{B}
use Rattle.h5_token.specs.TokenText.{IsAlike, TagText, first_value}
use Rattle.h5_token.specs.declared.tag.TagKind.TheVariants.{StartTag}

abbrev attribute : List ℕ → List ℕ → AttributeText
attribute name value = record { name = record { prefix = None; ns = []; local = name }; value = value }

abbrev i_1 : AttributeText
i_1 = attribute (codes "i") (codes "1")

abbrev i_2 : AttributeText
i_2 = attribute (codes "i") (codes "2")

abbrev j_2 : AttributeText
j_2 = attribute (codes "j") (codes "2")

abbrev bold : AttributeText → AttributeText → TagText
bold one other = record {
  kind = StartTag;
  name = name_text B;
  self_closing = false;
  attrs = one ∷ other ∷ [];
  had_duplicate_attributes = false;
}

-- the count of two attributes in either order, by whether each is the one that is counted
counted_in_any_order : (is_one is_other : Bool) →
    (if is_one then 1 + (if is_other then 1 + 0 else 0) else (if is_other then 1 + 0 else 0))
    ≡ (if is_other then 1 + (if is_one then 1 + 0 else 0) else (if is_one then 1 + 0 else 0))
counted_in_any_order true true = refl
counted_in_any_order true false = refl
counted_in_any_order false true = refl
counted_in_any_order false false = refl

alike_in_any_order : IsAlike (bold i_1 j_2) (bold j_2 i_1)
alike_in_any_order = record { kind = refl; name = refl; attrs = λ a. counted_in_any_order (is_same_attribute i_1 a) (is_same_attribute j_2 a) }

first_attributes_differ : is_same_attribute i_1 j_2 ≡ false
first_attributes_differ = refl

not_alike_once_and_twice : IsAlike (bold i_1 j_2) (bold i_1 i_1) → ⊥
not_alike_once_and_twice alike = let counts : 1 ≡ 2 = alike.attrs i_1 in omega (arith, counts)

not_alike_twice_and_once : IsAlike (bold i_1 i_1) (bold i_1 j_2) → ⊥
not_alike_twice_and_once alike = let counts : 2 ≡ 1 = alike.attrs i_1 in omega (arith, counts)

the_first_of_a_name : first_value (codes "i") (i_1 ∷ i_2 ∷ []) ≡ Some (codes "1")
the_first_of_a_name = refl

none_of_a_name : first_value (codes "j") (i_1 ∷ i_2 ∷ []) ≡ None
none_of_a_name = refl
