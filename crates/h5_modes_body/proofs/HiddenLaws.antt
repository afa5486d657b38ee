-- The attribute `type` is looked for among attributes, one after the other.
use Rattle.std.proofs.Common.{◌∷◌, suc, ◌≡◌, ◌<◌, ℕ, Bool, true, cond, List, drop, length, ap, ◌∙◌, sym, codes, slice_index_or}
use Rattle.std.proofs.Math.Seq.{drop-cons}
use Rattle.std.proofs.lemmas.Slice.Eq.{bytes_eq-Decides}
use Rattle.std.specs.Bool.{Decides}
use Rattle.std.specs.Str.{str_eq_ignore_ascii_case, str_to_ascii_lowercase}
use Rattle.h5_names.specs.AttributeText.{attribute_text, attribute_texts}
use Rattle.h5_names.specs.declared.qualified.Attribute.{Attribute}
use Rattle.h5_builder_spec.specs.modes.Shared.{is_type, is_type_hidden}
use Rattle.h5_names.proofs.KnownNameLemmas.{same_tests}

-- the first of what is left decides, where it is one
pub hidden_here : (attrs : List Attribute) (i : ℕ) (a : Attribute) → i < length attrs → a ≡ slice_index_or attrs i a → is_type (attribute_text a) ≡ true
    → is_type_hidden (attribute_texts (drop i attrs)) ≡ str_eq_ignore_ascii_case (attribute_text a).value (codes "hidden")
hidden_here attrs i a h e is_one =
    ap (λ (xs : List Attribute). is_type_hidden (attribute_texts xs)) (drop-cons attrs i a h ∙ ap (λ x. x ∷ drop (suc i) attrs) (sym e))
    ∙ ap (λ b. cond b (str_eq_ignore_ascii_case (attribute_text a).value (codes "hidden")) (is_type_hidden (attribute_texts (drop (suc i) attrs)))) is_one

-- whether two texts are the same in any case of ASCII letters, as it is decided
pub same_lowered : (a b : List ℕ) (r : Bool) → Decides r (str_to_ascii_lowercase a ≡ str_to_ascii_lowercase b) → r ≡ str_eq_ignore_ascii_case a b
same_lowered a b r decided =
    let same = bytes_eq-Decides (str_to_ascii_lowercase a) (str_to_ascii_lowercase b) in
    same_tests r (str_eq_ignore_ascii_case a b) (λ h. same.1 (decided.0 h)) (λ h. decided.1 (same.0 h))
