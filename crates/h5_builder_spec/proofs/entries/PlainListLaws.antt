-- What is listed isn't special.
use Rattle.std.proofs.Common.{◌≡◌, ◌&&◌, ◌||◌, inl, inr, ℕ, Bool, true, false, List, [], ◌∷◌, refl, ap, sym, subst, ◌∙◌, Some}
use Rattle.std.specs.Prelude.{not}
use Rattle.std.specs.List.{list_all}
use Rattle.h5_names.specs.AttributeText.{is_same_text}
use Rattle.h5_tables.specs.TagSets.{html_namespace, is_foreign_special, is_one_of, is_special, mathml_namespace, special_names, svg_namespace}
use Rattle.h5_builder_spec.specs.formatting.FormattingList.{ElementEntry, Entry, MarkerEntry, nodes_of}
use Rattle.h5_tables.specs.TagSets.{formatting_names}
use Rattle.h5_builder_spec.specs.formatting.FormattingNames.{AllFormatting, AllOfTags, IsPlain, html_name}
use Rattle.h5_builder_spec.specs.stack.Order.{IsIn}
use Rattle.h5_names.specs.declared.qualified.QualName.{QualName}
use Rattle.h5_interface.specs.Forest.{ElementNode, Forest, kind_of}
use Rattle.h5_builder_spec.proofs.entries.AlikeLaws.{same_text}

abbrev is_plain : List ℕ → Bool
is_plain x = not (is_special (html_name x))

all_plain : list_all is_plain formatting_names ≡ true
unfolding formatting_names is_special is_foreign_special special_names html_namespace mathml_namespace svg_namespace
all_plain = refl

among : (ns : List (List ℕ)) (x : List ℕ) → list_all is_plain ns ≡ true → is_one_of ns x ≡ true → is_plain x ≡ true
among [] x h k = absurd (cc)
among (n ∷ ns) x h k = at (is_same_text n x) refl (is_plain n) refl h k (among ns x)
  where
    at : (b : Bool) → is_same_text n x ≡ b → (c : Bool) → is_plain n ≡ c → (c && list_all is_plain ns) ≡ true → (b || is_one_of ns x) ≡ true → (list_all is_plain ns ≡ true → is_one_of ns x ≡ true → is_plain x ≡ true) → is_plain x ≡ true
    at b u false v h k go = absurd (cc)
    at true u true v h k go = subst (λ z. is_plain z ≡ true) ((same_text n x).0 u) v
    at false u true v h k go = go h k

-- a listed element is an HTML element that isn't special
pub listed_is_plain : (f : Forest) (l : List Entry) → AllOfTags f l → AllFormatting l → (n : ℕ) → IsIn n (nodes_of l) → IsPlain f n
listed_is_plain f [] k h n i = absurd i
listed_is_plain f (MarkerEntry ∷ l) k h n i = listed_is_plain f l k h n i
listed_is_plain f (ElementEntry m t ∷ l) k h n (inl e) = record {
  local = t.name;
  kind = ap (kind_of f) e ∙ k.0;
  is_plain = negated (is_special (html_name t.name)) (among formatting_names t.name all_plain h.0);
}
  where
    negated : (b : Bool) → not b ≡ true → b ≡ false
    negated true v = absurd (cc)
    negated false v = refl
listed_is_plain f (ElementEntry m t ∷ l) k h n (inr j) = listed_is_plain f l k.1 h.1 n j

-- so a special element isn't listed
pub special_not_listed : (f : Forest) (l : List Entry) → AllOfTags f l → AllFormatting l → (n : ℕ) (name : QualName) → kind_of f n ≡ Some (ElementNode name) → is_special name ≡ true → ¬ (IsIn n (nodes_of l))
special_not_listed f l k h n name named special i =
    let p = listed_is_plain f l k h n i in
    clash (is_special name) special (ap is_special (same name (html_name p.local) (sym named ∙ p.kind)) ∙ p.is_plain)
  where
    same : (a b : QualName) → Some (ElementNode a) ≡ Some (ElementNode b) → a ≡ b
    same a b e = cc

    clash : (b : Bool) → b ≡ true → b ≡ false → ⊥
    clash true p q = cc
    clash false p q = cc
