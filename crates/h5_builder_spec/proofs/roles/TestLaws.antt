-- The tests that rules make by name, as tests of roles.
use Rattle.std.proofs.Common.{◌≡◌, inl, inr, ℕ, Bool, true, false, cond, ◌&&◌, ◌||◌, List, [], ◌∷◌, codes, refl, ap, ◌∙◌}
use Rattle.h5_names.specs.AttributeText.{is_same_text}
use Rattle.h5_names.specs.declared.qualified.QualName.{QualName}
use Rattle.h5_tables.specs.TagSets.{cell_names, html_namespace, is_button_scope, is_cell, is_default_scope, is_html_named, is_list_item_scope, is_one_of, is_special, is_table_body_context, is_table_row_context, is_table_scope, table_body_context_names, table_row_context_names, table_scope_names}
use Rattle.h5_tables.specs.declared.modes.InsertionMode.TheVariants.{InBody}
use Rattle.h5_builder_spec.specs.stack.Scope.{cut_names, has_template, in_scope}
use Rattle.h5_builder_spec.specs.inner.Contexts.{TableBodyContext, TableContext, TableRowContext, ends}
use Rattle.h5_builder_spec.specs.inner.Fits.{Fits}
use Rattle.h5_builder_spec.specs.reset.Situation.{Situation}
use Rattle.h5_builder_spec.specs.inner.Frames.{Frame, passes_table_scope}
use Rattle.h5_builder_spec.specs.reset.Roles.{CellRole, HtmlRole, PlainRole, Role, RowRole, SectionRole, TableRole, TemplateRole, has_role, is_cell_role, is_floor_name, is_template, role_of, role_of_local, roles}
use Rattle.h5_builder_spec.proofs.fitting.ChangeLaws.{close_in_body}
use Rattle.h5_builder_spec.proofs.fitting.CutNameLaws.{frame_cut}
use Rattle.h5_builder_spec.proofs.roles.RoleNameLaws.{cut_roles}
use Rattle.h5_builder_spec.proofs.roles.RoleLaws.{Names, names_of_role, role_named}
use Rattle.h5_builder_spec.proofs.roles.SetLaws.{default_passes, in_set, ordinary_plain, template_test}
use Rattle.h5_builder_spec.proofs.BoolLaws.{or_neither}
use Rattle.h5_builder_spec.proofs.roles.RoleSetLaws.{set_test}

-- a foreign element is plain
pub foreign_plain : (n : QualName) → is_same_text n.ns html_namespace ≡ false → role_of n ≡ PlainRole
unfolding role_of
foreign_plain n h = ap (λ b. cond b (role_of_local n.local) PlainRole) h

-- what has this plain name is closed, in a scope that ends at all that the default scope ends at
pub frame_closed : (local : List ℕ) (stop : QualName → Bool) (ns : List QualName) → role_of_local local ≡ PlainRole → ((n : QualName) → stop n ≡ false → is_default_scope n ≡ false) → in_scope (is_html_named local) stop ns ≡ true
    → Frame (roles ns) (roles (cut_names (is_html_named local) ns))
frame_closed local stop ns e f h = frame_cut (cut_roles (is_html_named local) stop passes_table_scope PlainRole (λ n k. role_named local n k ∙ e) (λ n k l. default_passes n (f n l)) ns h)

-- so is any such set of plain names
pub frame_found : (is stop : QualName → Bool) (ns : List QualName) → ((n : QualName) → is n ≡ true → role_of n ≡ PlainRole) → ((n : QualName) → stop n ≡ false → is_default_scope n ≡ false) → in_scope is stop ns ≡ true
    → Frame (roles ns) (roles (cut_names is ns))
frame_found is stop ns e f h = frame_cut (cut_roles is stop passes_table_scope PlainRole e (λ n k l. default_passes n (f n l)) ns h)

-- the list item scope and the button scope end at all that the default scope ends at
pub list_item_default : (n : QualName) → is_list_item_scope n ≡ false → is_default_scope n ≡ false
unfolding is_list_item_scope
list_item_default n h = (or_neither (is_default_scope n) _ h).0

pub button_default : (n : QualName) → is_button_scope n ≡ false → is_default_scope n ≡ false
unfolding is_button_scope
button_default n h = (or_neither (is_default_scope n) _ h).0

-- so it is if nothing special comes before it
pub frame_ended : (local : List ℕ) (ns : List QualName) → role_of_local local ≡ PlainRole → in_scope (is_html_named local) is_special ns ≡ true → Frame (roles ns) (roles (cut_names (is_html_named local) ns))
frame_ended local ns e h = frame_cut (cut_roles (is_html_named local) is_special passes_table_scope PlainRole (λ n k. role_named local n k ∙ e) (λ n k l. ap passes_table_scope (ordinary_plain n l)) ns h)

-- and in InBody so is any name that no floor has
pub fits_closed : (s : Situation) (local : List ℕ) (ns : List QualName) → is_floor_name (role_of_local local) ≡ false → in_scope (is_html_named local) is_special ns ≡ true → Fits s InBody (roles ns)
    → Fits s InBody (roles (cut_names (is_html_named local) ns))
fits_closed s local ns e h f =
    close_in_body s (role_of_local local) e (cut_roles (is_html_named local) is_special passes_table_scope (role_of_local local) (λ n k. role_named local n k) (λ n k l. ap passes_table_scope (ordinary_plain n l)) ns h) f

-- what ends table scope, and what the stack is cleared back to
pub table_scope_test : (n : QualName) → is_table_scope n ≡ ends TableContext (role_of n)
unfolding role_of_local is_table_scope table_scope_names
table_scope_test n = set_test (ends TableContext) table_scope_names n (refl, (refl, (refl, tt))) (at (role_of n) (names_of_role n))
  where
    at : (x : Role) → Names x n → ends TableContext x ≡ true → (is_same_text n.ns html_namespace && is_one_of table_scope_names n.local) ≡ true
    at TableRole e h = in_set table_scope_names (codes "table") n refl e
    at TemplateRole e h = in_set table_scope_names (codes "template") n refl e
    at HtmlRole e h = in_set table_scope_names (codes "html") n refl e
    at _ e h = absurd (cc)

pub table_body_context_test : (n : QualName) → is_table_body_context n ≡ ends TableBodyContext (role_of n)
unfolding role_of_local is_table_body_context table_body_context_names
table_body_context_test n = set_test (ends TableBodyContext) table_body_context_names n (refl, (refl, (refl, (refl, (refl, tt))))) (at (role_of n) (names_of_role n))
  where
    at : (x : Role) → Names x n → ends TableBodyContext x ≡ true → (is_same_text n.ns html_namespace && is_one_of table_body_context_names n.local) ≡ true
    at SectionRole (inl e) h = in_set table_body_context_names (codes "tbody") n refl e
    at SectionRole (inr (inl e)) h = in_set table_body_context_names (codes "tfoot") n refl e
    at SectionRole (inr (inr e)) h = in_set table_body_context_names (codes "thead") n refl e
    at TemplateRole e h = in_set table_body_context_names (codes "template") n refl e
    at HtmlRole e h = in_set table_body_context_names (codes "html") n refl e
    at _ e h = absurd (cc)

pub table_row_context_test : (n : QualName) → is_table_row_context n ≡ ends TableRowContext (role_of n)
unfolding role_of_local is_table_row_context table_row_context_names
table_row_context_test n = set_test (ends TableRowContext) table_row_context_names n (refl, (refl, (refl, tt))) (at (role_of n) (names_of_role n))
  where
    at : (x : Role) → Names x n → ends TableRowContext x ≡ true → (is_same_text n.ns html_namespace && is_one_of table_row_context_names n.local) ≡ true
    at RowRole e h = in_set table_row_context_names (codes "tr") n refl e
    at TemplateRole e h = in_set table_row_context_names (codes "template") n refl e
    at HtmlRole e h = in_set table_row_context_names (codes "html") n refl e
    at _ e h = absurd (cc)

pub cell_test : (n : QualName) → is_cell n ≡ is_cell_role (role_of n)
unfolding role_of_local is_cell cell_names
cell_test n = set_test is_cell_role cell_names n (refl, (refl, tt)) (at (role_of n) (names_of_role n))
  where
    at : (x : Role) → Names x n → is_cell_role x ≡ true → (is_same_text n.ns html_namespace && is_one_of cell_names n.local) ≡ true
    at CellRole (inl e) h = in_set cell_names (codes "td") n refl e
    at CellRole (inr e) h = in_set cell_names (codes "th") n refl e
    at _ e h = absurd (cc)

-- some open element is a template
pub has_template_test : (ns : List QualName) → has_template ns ≡ has_role is_template (roles ns)
unfolding html_namespace is_html_named
has_template_test [] = refl
has_template_test (n ∷ ns) = ap (λ b. b || has_template ns) (template_test n) ∙ at (is_template (role_of n)) (has_template_test ns)
  where
    at : (b : Bool) → has_template ns ≡ has_role is_template (roles ns) → (b || has_template ns) ≡ cond b true (has_role is_template (roles ns))
    at true e = refl
    at false e = e
