-- The sets that scopes end at, and the roles.
use Rattle.std.proofs.Common.{◌≡◌, inl, inr, ℕ, Bool, true, false, ◌&&◌, ◌||◌, List, codes, refl, ap, sym, ◌∙◌}
use Rattle.h5_names.specs.AttributeText.{is_same_text}
use Rattle.h5_names.specs.declared.qualified.QualName.{QualName}
use Rattle.h5_tables.specs.TagSets.{html_namespace, implied_names, is_default_scope, is_foreign_special, is_implied, is_html_named, is_one_of, is_special, scope_names, special_names}
use Rattle.h5_builder_spec.specs.inner.Frames.{passes_table_scope}
use Rattle.h5_builder_spec.specs.reset.Roles.{is_html_element, BodyRole, CaptionRole, CellRole, ColgroupRole, FramesetRole, HeadRole, HtmlRole, PlainRole, Role, RowRole, SectionRole, TableRole, TemplateRole, is_html, is_template, role_of, role_of_local}
use Rattle.h5_builder_spec.proofs.roles.RoleLaws.{Names, named_ns, named_local, names_of_role, role_named}
use Rattle.h5_builder_spec.proofs.BoolLaws.{or_first}
use Rattle.h5_names.proofs.KnownNameLemmas.{same_tests}

-- a name of a list of local names
pub in_set : (set : List (List ℕ)) (t : List ℕ) (n : QualName) → is_one_of set t ≡ true → is_html_named t n ≡ true → (is_same_text n.ns html_namespace && is_one_of set n.local) ≡ true
in_set set t n h e = ap (λ b. b && is_one_of set n.local) (named_ns t n e) ∙ ap (is_one_of set) (named_local t n e) ∙ h

-- an element of such a name ends the default scope, or is special
pub default_named : (t : List ℕ) (n : QualName) → is_one_of scope_names t ≡ true → is_html_named t n ≡ true → is_default_scope n ≡ true
unfolding is_default_scope
default_named t n h e = or_first (is_same_text n.ns html_namespace && is_one_of scope_names n.local) _ (in_set scope_names t n h e)

pub special_named : (t : List ℕ) (n : QualName) → is_one_of special_names t ≡ true → is_html_named t n ≡ true → is_special n ≡ true
unfolding is_special
special_named t n h e = or_first (is_same_text n.ns html_namespace && is_one_of special_names n.local) _ (in_set special_names t n h e)

-- what is special and ends no default scope is of HTML, since what is special of MathML and SVG ends it
pub special_in_scope : (n : QualName) → is_special n ≡ true → is_default_scope n ≡ false → is_html_element n ≡ true
unfolding is_special is_default_scope
special_in_scope n h k = at (is_same_text n.ns html_namespace) (is_one_of special_names n.local) (is_same_text n.ns html_namespace && is_one_of scope_names n.local) (is_foreign_special n) h k
  where
    at : (a b c d : Bool) → ((a && b) || d) ≡ true → (c || d) ≡ false → a ≡ true
    at true b c d e f = refl
    at false b c false e f = absurd (cc)
    at false b true true e f = absurd (cc)
    at false b false true e f = absurd (cc)

-- what no scope ends at passes
pub default_passes : (n : QualName) → is_default_scope n ≡ false → passes_table_scope (role_of n) ≡ true
unfolding scope_names
default_passes n h = at (role_of n) (names_of_role n)
  where
    scoped : (t : List ℕ) → is_one_of scope_names t ≡ true → is_html_named t n ≡ true → ⊥
    scoped t o e = absurd (let d = default_named t n o e in cc)

    at : (x : Role) → Names x n → passes_table_scope x ≡ true
    at HtmlRole e = absurd (scoped (codes "html") refl e)
    at TableRole e = absurd (scoped (codes "table") refl e)
    at TemplateRole e = absurd (scoped (codes "template") refl e)
    at _ e = refl

-- what isn't special is plain
pub ordinary_plain : (n : QualName) → is_special n ≡ false → role_of n ≡ PlainRole
unfolding special_names
ordinary_plain n h = at (role_of n) (names_of_role n)
  where
    special : (t : List ℕ) → is_one_of special_names t ≡ true → is_html_named t n ≡ true → ⊥
    special t o e = absurd (let d = special_named t n o e in cc)

    at : (x : Role) → Names x n → x ≡ PlainRole
    at PlainRole e = refl
    at HtmlRole e = absurd (special (codes "html") refl e)
    at HeadRole e = absurd (special (codes "head") refl e)
    at BodyRole e = absurd (special (codes "body") refl e)
    at FramesetRole e = absurd (special (codes "frameset") refl e)
    at TableRole e = absurd (special (codes "table") refl e)
    at TemplateRole e = absurd (special (codes "template") refl e)
    at CaptionRole e = absurd (special (codes "caption") refl e)
    at ColgroupRole e = absurd (special (codes "colgroup") refl e)
    at SectionRole (inl e) = absurd (special (codes "tbody") refl e)
    at SectionRole (inr (inl e)) = absurd (special (codes "tfoot") refl e)
    at SectionRole (inr (inr e)) = absurd (special (codes "thead") refl e)
    at RowRole e = absurd (special (codes "tr") refl e)
    at CellRole (inl e) = absurd (special (codes "td") refl e)
    at CellRole (inr e) = absurd (special (codes "th") refl e)

pub html_test : (n : QualName) → is_html_named (codes "html") n ≡ is_html (role_of n)
unfolding role_of_local
html_test n = same_tests (is_html_named (codes "html") n) (is_html (role_of n)) (λ h. ap is_html (role_named (codes "html") n h ∙ html_is)) (at (role_of n) (names_of_role n))
  where
    html_is : role_of_local (codes "html") ≡ HtmlRole
    html_is = refl

    at : (x : Role) → Names x n → is_html x ≡ true → is_html_named (codes "html") n ≡ true
    at HtmlRole e h = e
    at _ e h = absurd (cc)

pub template_test : (n : QualName) → is_html_named (codes "template") n ≡ is_template (role_of n)
unfolding role_of_local
template_test n = same_tests (is_html_named (codes "template") n) (is_template (role_of n)) (λ h. ap is_template (role_named (codes "template") n h ∙ template_is)) (at (role_of n) (names_of_role n))
  where
    template_is : role_of_local (codes "template") ≡ TemplateRole
    template_is = refl

    at : (x : Role) → Names x n → is_template x ≡ true → is_html_named (codes "template") n ≡ true
    at TemplateRole e h = e
    at _ e h = absurd (cc)

-- an implied end tag isn't a root
pub implied_not_html : (n : QualName) → is_implied n ≡ true → is_html_named (codes "html") n ≡ false
unfolding is_implied implied_names
implied_not_html n h = at (is_html_named (codes "html") n) refl
  where
    none : (a : Bool) → (a && is_one_of implied_names (codes "html")) ≡ true → ⊥
    none true k = absurd (cc)
    none false k = absurd (cc)

    at : (b : Bool) → is_html_named (codes "html") n ≡ b → b ≡ false
    at false e = refl
    at true e = absurd (none (is_same_text n.ns html_namespace) (sym (ap (λ l. is_same_text n.ns html_namespace && is_one_of implied_names l) (named_local (codes "html") n e)) ∙ h))
