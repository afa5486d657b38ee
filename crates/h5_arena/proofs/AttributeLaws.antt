-- Attributes that are added one by one.
use Rattle.std.proofs.Common.{◌≡◌, ◌∙◌, Bool, true, false, not, List, [], ◌∷◌, ◌++◌, ap, arith, length, refl, sym, take}
use Prim.Native.Nat.{zero, suc}
use Rattle.std.specs.Prelude.{ℕ}
use Rattle.std.specs.List.{filter, list_any}
use Rattle.std.proofs.lemmas.List.{append-nil, append_assoc, map-append}
use Rattle.std.proofs.lemmas.List.Elements.{filter-append}
use Rattle.h5_names.specs.declared.qualified.Attribute.{Attribute}
use Rattle.h5_names.specs.AttributeText.{AttributeText, attribute_text, attribute_texts, is_same_name}
use Rattle.h5_interface.specs.Changes.{has_attribute, with_missing}
use Rattle.h5_interface.proofs.ElementLemmas.{any_of_texts}

only : {X : Type 0} (p : X → Bool) (x : X) → p x ≡ true → filter p (x ∷ []) ≡ x ∷ []
only p x h = rw h refl

none : {X : Type 0} (p : X → Bool) (x : X) → p x ≡ false → filter p (x ∷ []) ≡ []
none p x h = rw h refl

missing_more : (olds xs : List AttributeText) (x : AttributeText) → has_attribute x.name olds ≡ false → with_missing (xs ++ x ∷ []) olds ≡ with_missing xs olds ++ x ∷ []
missing_more olds xs x h =
    ap (λ ys. olds ++ ys) (filter-append (λ a. not (has_attribute a.name olds)) xs (x ∷ []) ∙ ap (λ ys. filter (λ a. not (has_attribute a.name olds)) xs ++ ys) (only (λ a. not (has_attribute a.name olds)) x (rw h refl)))
    ∙ sym (append_assoc olds (filter (λ a. not (has_attribute a.name olds)) xs) (x ∷ []))

present_more : (olds xs : List AttributeText) (x : AttributeText) → has_attribute x.name olds ≡ true → with_missing (xs ++ x ∷ []) olds ≡ with_missing xs olds
present_more olds xs x h =
    ap (λ ys. olds ++ ys) (filter-append (λ a. not (has_attribute a.name olds)) xs (x ∷ []) ∙ ap (λ ys. filter (λ a. not (has_attribute a.name olds)) xs ++ ys) (none (λ a. not (has_attribute a.name olds)) x (rw h refl)) ∙ append-nil (filter (λ a. not (has_attribute a.name olds)) xs))

-- true if a name is among the attributes that were there
there : (olds : List Attribute) (x : Attribute) (b : Bool) → list_any (λ a. is_same_name a.name x.name) olds ≡ b → has_attribute (attribute_text x).name (attribute_texts olds) ≡ b
there olds x b h = any_of_texts (λ a. is_same_name a.name x.name) olds ∙ h

-- one that is missing is added
pub added : (olds xs items : List Attribute) (x : Attribute) → list_any (λ a. is_same_name a.name x.name) olds ≡ false → attribute_texts items ≡ with_missing (attribute_texts xs) (attribute_texts olds)
    → attribute_texts (items ++ x ∷ []) ≡ with_missing (attribute_texts (xs ++ x ∷ [])) (attribute_texts olds)
added olds xs items x h e =
    map-append attribute_text items (x ∷ []) ∙ ap (λ ys. ys ++ attribute_text x ∷ []) e
    ∙ sym (ap (λ ys. with_missing ys (attribute_texts olds)) (map-append attribute_text xs (x ∷ [])) ∙ missing_more (attribute_texts olds) (attribute_texts xs) (attribute_text x) (there olds x false h))

-- and one that is there is not
pub left_out : (olds xs items : List Attribute) (x : Attribute) → list_any (λ a. is_same_name a.name x.name) olds ≡ true → attribute_texts items ≡ with_missing (attribute_texts xs) (attribute_texts olds)
    → attribute_texts items ≡ with_missing (attribute_texts (xs ++ x ∷ [])) (attribute_texts olds)
left_out olds xs items x h e =
    e ∙ sym (ap (λ ys. with_missing ys (attribute_texts olds)) (map-append attribute_text xs (x ∷ [])) ∙ present_more (attribute_texts olds) (attribute_texts xs) (attribute_text x) (there olds x true h))

-- the first attributes are unchanged
pub first_stay : (items olds : List Attribute) (x : Attribute) (k : ℕ) → k ≡ length olds → take k items ≡ olds → take k (items ++ x ∷ []) ≡ olds
first_stay items [] x zero e h = refl
first_stay items (y ∷ olds) x zero e h = absurd (omega arith)
first_stay items [] x (suc k) e h = absurd (omega arith)
first_stay [] (y ∷ olds) x (suc k) e h = cc
first_stay (z ∷ items) (y ∷ olds) x (suc k) e h = let hd : z ≡ y = cc in let tl : take k items ≡ olds = cc in ap (λ v. v ∷ take k (items ++ x ∷ [])) hd ∙ ap (λ vs. y ∷ vs) (first_stay items olds x k (omega arith) tl)
