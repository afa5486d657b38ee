-- Texts and attributes of a block.
use Rattle.std.proofs.Common.{◌≡◌, ◌∙◌, ℕ, suc, ◌+◌, Bool, true, cond, List, [], ◌∷◌, ◌++◌, ap, arith, inl, inr, subst, sym}
use Rattle.std.specs.Str.{IsUtf8, is_utf8}
use Rattle.std.proofs.lemmas.Bool.{cases_Bool}
use Rattle.std.proofs.lemmas.List.{map-append}
use Rattle.std.proofs.lemmas.Str.{IsUtf8-from_is_utf8, is_utf8-from_IsUtf8}
use Rattle.h5_names.specs.AttributeText.{attribute_text, attribute_texts}
use Rattle.h5_names.specs.declared.qualified.Attribute.{Attribute}
use Rattle.h5_tree_block.specs.Read.{attribute_of, attributes_below, bytes_in, str_in}
use Rattle.h5_tree_block.specs.declared.view.Span.{Span}

-- bytes that are a text, and bytes that aren't
pub is_text : (b : List ℕ) (span : Span) (bytes text : List ℕ) → bytes ≡ bytes_in b span → text ≡ bytes → IsUtf8 bytes → text ≡ str_in b span
unfolding str_in
is_text b span bytes text e same utf8 =
    let yes : is_utf8 (bytes_in b span) ≡ true = subst (λ x. is_utf8 x ≡ true) e (is_utf8-from_IsUtf8 bytes utf8) in
    same ∙ e ∙ sym (ap (λ (t : Bool). cond t (bytes_in b span) []) yes)

pub is_no_text : (b : List ℕ) (span : Span) (bytes : List ℕ) → bytes ≡ bytes_in b span → (IsUtf8 bytes → ⊥) → [] ≡ str_in b span
unfolding str_in
is_no_text b span bytes e broken = elim (cases_Bool (is_utf8 (bytes_in b span))) [
  | inl y ↦ absurd (broken (subst IsUtf8 (sym e) (IsUtf8-from_is_utf8 (bytes_in b span) y)))
  | inr n ↦ sym (ap (λ (t : Bool). cond t (bytes_in b span) []) n)
]

-- one attribute more
below_more : (b : List ℕ) (node index : ℕ) → attributes_below b node (index + 1) ≡ attributes_below b node index ++ attribute_of b node index ∷ []
below_more b node index = let next : index + 1 ≡ suc index = omega arith in ap (attributes_below b node) next

pub attribute_put : (b : List ℕ) (node index : ℕ) (xs ys : List Attribute) (a : Attribute) → ys ≡ xs ++ a ∷ [] → attribute_text a ≡ attribute_of b node index
    → attribute_texts xs ≡ attributes_below b node index → attribute_texts ys ≡ attributes_below b node (index + 1)
attribute_put b node index xs ys a more is so_far =
    ap attribute_texts more
    ∙ map-append attribute_text xs (a ∷ [])
    ∙ ap (λ before. before ++ attribute_text a ∷ []) so_far
    ∙ ap (λ last. attributes_below b node index ++ last ∷ []) is
    ∙ sym (below_more b node index)
