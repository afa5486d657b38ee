-- A row group that is closed isn't the root.
use Rattle.std.proofs.Common.{◌≡◌, ◌⊎◌, inl, inr, ℕ, Bool, true, false, cond, ◌||◌, List, [], ◌∷◌, codes, refl, ap, sym, subst, ◌∙◌}
use Rattle.h5_names.specs.declared.qualified.QualName.{QualName}
use Rattle.h5_names.proofs.KnownNameLemmas.{same_tests}
use Rattle.h5_tables.specs.TagSets.{is_html_named, is_table_body_context, is_table_scope}
use Rattle.h5_builder_spec.specs.modes.InTableBody.{is_table_section}
use Rattle.h5_builder_spec.specs.reset.Roles.{Role, SectionRole, is_html, is_section, role_of, role_of_local}
use Rattle.h5_builder_spec.specs.inner.Contexts.{TableBodyContext, ends}
use Rattle.h5_builder_spec.specs.stack.Root.{IsRootOpen}
use Rattle.h5_builder_spec.specs.stack.Scope.{down_names, in_scope, later_names}
use Rattle.h5_builder_spec.proofs.roles.RoleLaws.{Names, names_of_role, role_named}
use Rattle.h5_builder_spec.proofs.roles.SetLaws.{html_test}
use Rattle.h5_builder_spec.proofs.fitting.TableModeLaws.{body_passed}
use Rattle.h5_builder_spec.proofs.roles.TestLaws.{table_body_context_test, table_scope_test}

-- a row group is recognized by its role
pub section_test : (n : QualName) → is_table_section n ≡ is_section (role_of n)
unfolding role_of_local
section_test n = same_tests (is_table_section n) (is_section (role_of n)) (named (is_html_named (codes "tbody") n) (is_html_named (codes "tfoot") n) (is_html_named (codes "thead") n) refl refl refl) (at (role_of n) (names_of_role n))
  where
    role : (t : List ℕ) → is_html_named t n ≡ true → is_section (role_of_local t) ≡ true → is_section (role_of n) ≡ true
    role t e o = ap is_section (role_named t n e) ∙ o

    named : (a b c : Bool) → is_html_named (codes "tbody") n ≡ a → is_html_named (codes "tfoot") n ≡ b → is_html_named (codes "thead") n ≡ c → (a || (b || c)) ≡ true → is_section (role_of n) ≡ true
    named true b c e f g o = role (codes "tbody") e refl
    named false true c e f g o = role (codes "tfoot") f refl
    named false false true e f g o = role (codes "thead") g refl
    named false false false e f g o = absurd (cc)

    one : (a b c : Bool) → (a ≡ true) ⊎ ((b ≡ true) ⊎ (c ≡ true)) → (a || (b || c)) ≡ true
    one true b c h = refl
    one false true c h = refl
    one false false true h = refl
    one false false false (inl h) = absurd (cc)
    one false false false (inr (inl h)) = absurd (cc)
    one false false false (inr (inr h)) = absurd (cc)

    at : (x : Role) → Names x n → is_section x ≡ true → is_table_section n ≡ true
    at SectionRole e h = one (is_html_named (codes "tbody") n) (is_html_named (codes "tfoot") n) (is_html_named (codes "thead") n) e
    at _ e h = absurd (cc)

-- If a row group is in table scope, the stack cleared back to a table body context has it on top, and the root is
-- older: the two pops of the mode never reach the root, whatever the mode says.
pub section_above_root : (ns : List QualName) → in_scope is_table_section is_table_scope ns ≡ true → IsRootOpen ns → IsRootOpen (later_names (down_names is_table_body_context ns))
section_above_root [] h k = absurd k
section_above_root (n ∷ ns) h k = at (is_table_section n) refl (is_table_scope n) refl h (section_above_root ns)
  where
    section_ends : (x : Role) → is_section x ≡ true → ends TableBodyContext x ≡ true
    section_ends SectionRole e = refl
    section_ends _ e = absurd (cc)

    section_no_root : (x : Role) → is_section x ≡ true → is_html x ≡ false
    section_no_root SectionRole e = refl
    section_no_root _ e = absurd (cc)

    below : (ms : List QualName) → is_table_section n ≡ true → IsRootOpen (n ∷ ms) → IsRootOpen ms
    below [] e o = absurd (let clash : false ≡ true = sym (section_no_root (role_of n) (sym (section_test n) ∙ e)) ∙ sym (html_test n) ∙ o in cc)
    below (m ∷ ms) e o = o

    above : (ms : List QualName) → in_scope is_table_section is_table_scope ms ≡ true → IsRootOpen (n ∷ ms) → IsRootOpen ms
    above [] e o = absurd (cc)
    above (m ∷ ms) e o = o

    at : (b : Bool) → is_table_section n ≡ b → (c : Bool) → is_table_scope n ≡ c → cond b true (cond c false (in_scope is_table_section is_table_scope ns)) ≡ true
        → (in_scope is_table_section is_table_scope ns ≡ true → IsRootOpen ns → IsRootOpen (later_names (down_names is_table_body_context ns)))
        → IsRootOpen (later_names (down_names is_table_body_context (n ∷ ns)))
    at true e c d g next =
        let body = table_body_context_test n ∙ section_ends (role_of n) (sym (section_test n) ∙ e) in
        subst (λ b. IsRootOpen (later_names (cond b (n ∷ ns) (down_names is_table_body_context ns)))) (sym body) (below ns e k)
    at false e true d g next = absurd (cc)
    at false e false d g next =
        let body = table_body_context_test n ∙ body_passed (role_of n) (sym (section_test n) ∙ e) (sym (table_scope_test n) ∙ d) in
        subst (λ b. IsRootOpen (later_names (cond b (n ∷ ns) (down_names is_table_body_context ns)))) (sym body) (next g (above ns g k))
