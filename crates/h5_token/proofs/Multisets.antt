-- Lists that have the same attributes.
use Rattle.std.proofs.Common.{◌≡◌, ◌≢◌, ◌==◌, ◌&&◌, ℕ, Bool, true, false, List, [], ◌∷◌, refl, sym, ◌∙◌, subst, zero, suc}
use Rattle.std.specs.List.{list_all}
use Rattle.std.proofs.lemmas.Bool.{eq-eqb, eqb-true}
use Rattle.h5_names.specs.AttributeText.{AttributeText, attribute_text, attribute_texts, is_same_attribute}
use Rattle.h5_names.specs.declared.qualified.Attribute.{Attribute}
use Rattle.h5_names.proofs.AttributeLemmas.{same_attribute}
use Rattle.h5_token.specs.Occurrences.{occurrences, HaveSameAttributes}

-- true if an attribute occurs in both lists equally often
abbrev pub is_as_often : List Attribute → List Attribute → Attribute → Bool
is_as_often left right x =
    occurrences (attribute_text x) (attribute_texts left) == occurrences (attribute_text x) (attribute_texts right)

both : (a b : Bool) → (a && b) ≡ true → (a ≡ true) × (b ≡ true)
both true b h = (refl, h)
both false b h = cc

-- if each attribute of a list occurs in both lists equally often, so does any one of them
listed : (a : AttributeText) (these left right : List Attribute) → list_all (is_as_often left right) these ≡ true → occurrences a (attribute_texts these) ≢ 0 → occurrences a (attribute_texts left) ≡ occurrences a (attribute_texts right)
listed a [] left right all there = absurd (there refl)
listed a (x ∷ these) left right all there = step (is_same_attribute (attribute_text x) a) refl (listed a these left right (both _ _ all).1)
  where
    step : (b : Bool) → is_same_attribute (attribute_text x) a ≡ b → (occurrences a (attribute_texts these) ≢ 0 → occurrences a (attribute_texts left) ≡ occurrences a (attribute_texts right)) → occurrences a (attribute_texts left) ≡ occurrences a (attribute_texts right)
    step true same again =
        let P : AttributeText → Type 0 = λ t. occurrences t (attribute_texts left) ≡ occurrences t (attribute_texts right) in
        subst P ((same_attribute (attribute_text x) a).0 same) (eqb-true _ _ (both _ _ all).0)
    step false other again = again (λ none. there (rw other none))

-- An attribute that is in neither list occurs in both equally often.
pub counted : (left right : List Attribute) → list_all (is_as_often left right) left ≡ true → list_all (is_as_often left right) right ≡ true → HaveSameAttributes (attribute_texts left) (attribute_texts right)
counted left right in_left in_right a = cases (occurrences a (attribute_texts left)) (occurrences a (attribute_texts right)) refl refl
  where
    cases : (m n : ℕ) → occurrences a (attribute_texts left) ≡ m → occurrences a (attribute_texts right) ≡ n → occurrences a (attribute_texts left) ≡ occurrences a (attribute_texts right)
    cases zero zero p q = p ∙ sym q
    cases (suc m) n p q = listed a left left right in_left (λ none. cc)
    cases m (suc n) p q = listed a right left right in_right (λ none. cc)

pub counted_back : (left right these : List Attribute) → HaveSameAttributes (attribute_texts left) (attribute_texts right) → list_all (is_as_often left right) these ≡ true
counted_back left right [] h = refl
counted_back left right (x ∷ these) h = rw (eq-eqb _ _ (h (attribute_text x))) (counted_back left right these h)
