-- Sets of HTML elements, as tests of roles.
use Rattle.std.proofs.Common.{◌≡◌, ℕ, Bool, true, false, cond, ◌&&◌, ◌||◌, List, [], ◌∷◌, refl, ap, sym, ◌∙◌}
use Rattle.std.proofs.lemmas.Slice.Eq.{bytes_eq-Decides}
use Rattle.h5_names.specs.AttributeText.{is_same_text}
use Rattle.h5_names.specs.declared.qualified.QualName.{QualName}
use Rattle.h5_tables.specs.TagSets.{html_namespace, is_one_of}
use Rattle.h5_builder_spec.specs.reset.Roles.{PlainRole, Role, role_of, role_of_local}
use Rattle.h5_builder_spec.proofs.BoolLaws.{and_both}
use Rattle.h5_names.proofs.KnownNameLemmas.{same_tests}

abbrev pub AllPass : (Role → Bool) → List (List ℕ) → Type 0
AllPass p [] = Unit {0}
AllPass p (t ∷ set) = (p (role_of_local t) ≡ true) × AllPass p set

pub all_pass : (p : Role → Bool) (set : List (List ℕ)) (l : List ℕ) → AllPass p set → is_one_of set l ≡ true → p (role_of_local l) ≡ true
all_pass p [] l a h = absurd (cc)
all_pass p (t ∷ set) l a h = at (is_same_text t l) refl h (all_pass p set l a.1)
  where
    at : (b : Bool) → is_same_text t l ≡ b → (b || is_one_of set l) ≡ true → (is_one_of set l ≡ true → p (role_of_local l) ≡ true) → p (role_of_local l) ≡ true
    at true e k f = ap (λ x. p (role_of_local x)) (sym ((bytes_eq-Decides t l).0 e)) ∙ a.0
    at false e k f = f k

pub set_passes : (p : Role → Bool) (set : List (List ℕ)) (n : QualName) → AllPass p set → (is_same_text n.ns html_namespace && is_one_of set n.local) ≡ true → p (role_of n) ≡ true
unfolding role_of
set_passes p set n a h =
    let both = and_both (is_same_text n.ns html_namespace) (is_one_of set n.local) h in
    ap (λ b. p (cond b (role_of_local n.local) PlainRole)) both.0 ∙ all_pass p set n.local a both.1

pub set_test : (p : Role → Bool) (set : List (List ℕ)) (n : QualName) → AllPass p set → (p (role_of n) ≡ true → (is_same_text n.ns html_namespace && is_one_of set n.local) ≡ true)
    → (is_same_text n.ns html_namespace && is_one_of set n.local) ≡ p (role_of n)
set_test p set n a f = same_tests (is_same_text n.ns html_namespace && is_one_of set n.local) (p (role_of n)) (set_passes p set n a) f
