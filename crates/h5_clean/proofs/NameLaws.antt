-- A set of names in two parts.
use Rattle.std.proofs.Common.{◌≡◌, ◌||◌, ◌∷◌, Bool, true, false, List, [], ℕ, refl, sym}
use Rattle.std.proofs.lemmas.Slice.Eq.{bytes_eq-Decides}
use Rattle.std.proofs.lemmas.List.Folds.{list_any-append}
use Rattle.h5_names.specs.AttributeText.{is_same_text}
use Rattle.h5_tables.specs.TagSets.{is_one_of}
use Rattle.h5_builder_laws.specs.Plain.{barrier_names, phrase_names}
use Rattle.h5_clean.specs.Kinds.{early_barrier_names, early_phrase_names, late_barrier_names, late_phrase_names}

pub phrase_parts : (name : List ℕ) → is_one_of early_phrase_names name || is_one_of late_phrase_names name ≡ is_one_of phrase_names name
unfolding phrase_names early_phrase_names late_phrase_names
phrase_parts name = sym (list_any-append (λ x. is_same_text x name) early_phrase_names late_phrase_names)

pub barrier_parts : (name : List ℕ) → is_one_of early_barrier_names name || is_one_of late_barrier_names name ≡ is_one_of barrier_names name
unfolding barrier_names early_barrier_names late_barrier_names
barrier_parts name = sym (list_any-append (λ x. is_same_text x name) early_barrier_names late_barrier_names)

-- a name that is none of these
abbrev pub AreOthers : List ℕ → List (List ℕ) → Type 0
AreOthers name [] = Unit {0}
AreOthers name (x ∷ xs) = ¬ (name ≡ x) × AreOthers name xs

pub isnt_among : (name : List ℕ) (xs : List (List ℕ)) → AreOthers name xs → is_one_of xs name ≡ false
isnt_among name [] h = refl
isnt_among name (x ∷ xs) h = at (isnt_among name xs h.1) (is_same_text x name) refl
  where
    at : is_one_of xs name ≡ false → (b : Bool) → is_same_text x name ≡ b → (b || is_one_of xs name) ≡ false
    at none true e = absurd (h.0 (sym ((bytes_eq-Decides x name).0 e)))
    at none false e = none
