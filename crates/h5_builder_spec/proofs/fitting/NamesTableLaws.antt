-- What modes say by names: parts of tables inserted and closed, tables, templates and framesets.
use Rattle.std.proofs.Common.{◌≡◌, ◌⊎◌, inl, inr, ℕ, Bool, true, false, cond, ◌||◌, List, [], ◌∷◌, codes, refl, ap, sym, subst, ◌∙◌}
use Rattle.h5_names.specs.declared.qualified.QualName.{QualName}
use Rattle.h5_tables.specs.TagSets.{html_namespace, is_cell, is_html_named, is_table_body_context, is_table_row_context, is_table_scope}
use Rattle.h5_tables.specs.declared.modes.InsertionMode.{InsertionMode}
use Rattle.h5_tables.specs.declared.modes.InsertionMode.TheVariants.{InCaption, InCell, InColumnGroup, InFrameset, InRow, InTable, InTableBody, InTemplate, InHead, AfterHead, AfterAfterFrameset, AfterFrameset}
use Rattle.h5_builder_spec.specs.stack.Scope.{cut_names, down_names, has_template, in_scope, later_names}
use Rattle.h5_builder_spec.specs.reset.SituationChanges.{with_last_mode, with_template, without_template}
use Rattle.h5_builder_spec.specs.inner.Contexts.{StackContext, TableBodyContext, TableContext, TableRowContext, down_to, ends}
use Rattle.h5_builder_spec.specs.inner.Fits.{Fits, Known, goes_by_body, is_template_mode, is_whole, takes_template}
use Rattle.h5_builder_spec.specs.reset.Situation.{Situation}
use Rattle.h5_builder_spec.specs.inner.Floors.{Left, grounded_left, head_left, root_left}
use Rattle.h5_builder_spec.specs.inner.Frames.{Cut, here, passes_table_scope, passes_to_template}
use Rattle.h5_builder_spec.specs.inner.NamesFit.{NamesFit}
use Rattle.h5_builder_spec.specs.reset.ResetByRoles.{reset}
use Rattle.h5_builder_spec.specs.reset.Roles.{CaptionRole, CellRole, ColgroupRole, FramesetRole, HtmlRole, PlainRole, Role, RowRole, SectionRole, TableRole, TemplateRole, is_cell_role, is_row, is_section, is_template, later_roles, role_of, role_of_local, role_in_scope, roles}
use Rattle.h5_builder_spec.proofs.fitting.ChangeLaws.{frameset_fits, table_closed, table_fits, template_closed, template_fits}
use Rattle.h5_builder_spec.proofs.fitting.EdgeLaws.{after_frameset_pushed, frameset_left, frameset_popped, frameset_pushed}
use Rattle.h5_builder_spec.proofs.fitting.FrameLaws.{Rooted}
use Rattle.h5_builder_spec.proofs.fitting.HeadLaws.{in_template_other}
use Rattle.h5_builder_spec.proofs.roles.RoleNameLaws.{cut_roles, down_roles, scope_roles}
use Rattle.h5_builder_spec.proofs.fitting.NamesFitLaws.{is_silent, kind_silent, names_fit, reset_named, roles_later}
use Rattle.h5_builder_spec.proofs.fitting.PlacedNameLaws.{fits_grounded, grounded_rooted}
use Rattle.h5_builder_spec.proofs.roles.RoleLaws.{role_named}
use Rattle.h5_builder_spec.proofs.roles.SetLaws.{template_test}
use Rattle.h5_builder_spec.proofs.fitting.TableModeLaws.{first_row, first_section, in_caption_close, in_cell_close, in_column_group_pop, in_row_cell, in_row_close, in_table_body_close, in_table_body_row, in_table_caption, in_table_colgroup, in_table_section}
use Rattle.h5_builder_spec.proofs.roles.TestLaws.{cell_test, table_body_context_test, table_row_context_test, table_scope_test}

-- what has this name is found in table scope, and closed
table_passes : (n : QualName) → is_table_scope n ≡ false → passes_table_scope (role_of n) ≡ true
table_passes n h = at (role_of n) (sym (table_scope_test n) ∙ h)
  where
    at : (x : Role) → ends TableContext x ≡ false → passes_table_scope x ≡ true
    at HtmlRole k = absurd (cc)
    at TableRole k = absurd (cc)
    at TemplateRole k = absurd (cc)
    at _ k = refl

pub table_cut : (x : Role) (local : List ℕ) (ns : List QualName) → role_of_local local ≡ x → in_scope (is_html_named local) is_table_scope ns ≡ true → Cut passes_table_scope x (roles ns) (roles (cut_names (is_html_named local) ns))
table_cut x local ns e h = cut_roles (is_html_named local) is_table_scope passes_table_scope x (λ n k. role_named local n k ∙ e) (λ n k l. table_passes n l) ns h

-- the stack is cleared back to a context, and the current node popped then
later_down : (c : StackContext) (is : QualName → Bool) (x : Role) (ns : List QualName) (rest : List Role) → ((n : QualName) → is n ≡ ends c (role_of n)) → down_to c (roles ns) ≡ x ∷ rest → rest ≡ roles (later_names (down_names is ns))
later_down c is x ns rest f e = sym (ap later_roles (down_roles c is f ns ∙ e)) ∙ roles_later (down_names is ns)

-- what a test finds in table scope its role finds there, where the role passes whenever the test does
found_in_scope : (test : QualName → Bool) (is : Role → Bool) → ((n : QualName) → test n ≡ true → is (role_of n) ≡ true) → (ns : List QualName) → in_scope test is_table_scope ns ≡ true → role_in_scope is (ends TableContext) (roles ns) ≡ true
found_in_scope test is e [] h = absurd (cc)
found_in_scope test is e (n ∷ ns) h = at (test n) (is_table_scope n) refl (table_scope_test n) h (found_in_scope test is e ns)
  where
    first : (a r : Bool) → a ≡ true → cond a true r ≡ true
    first true r k = refl
    first false r k = absurd (cc)

    later : (a b r : Bool) → b ≡ false → r ≡ true → cond a true (cond b false r) ≡ true
    later true b r k l = refl
    later false true r k l = absurd (cc)
    later false false r k l = l

    at : (a b : Bool) → test n ≡ a → b ≡ ends TableContext (role_of n) → cond a true (cond b false (in_scope test is_table_scope ns)) ≡ true
        → (in_scope test is_table_scope ns ≡ true → role_in_scope is (ends TableContext) (roles ns) ≡ true)
        → cond (is (role_of n)) true (cond (ends TableContext (role_of n)) false (role_in_scope is (ends TableContext) (roles ns))) ≡ true
    at true b k l o f = first (is (role_of n)) _ (e n k)
    at false true k l o f = absurd (cc)
    at false false k l o f = later (is (role_of n)) (ends TableContext (role_of n)) (role_in_scope is (ends TableContext) (roles ns)) (sym l) (f o)

-- what table scope has by its name it has by its role
named_in_scope : (local : List ℕ) (is : Role → Bool) → is (role_of_local local) ≡ true → (ns : List QualName) → in_scope (is_html_named local) is_table_scope ns ≡ true → role_in_scope is (ends TableContext) (roles ns) ≡ true
named_in_scope local is e ns h = found_in_scope (is_html_named local) is (λ n k. ap is (role_named local n k) ∙ e) ns h

-- the first template is closed, where one is open
template_passes : (n : QualName) → is_html_named (codes "template") n ≡ false → passes_to_template (role_of n) ≡ true
template_passes n h = at (role_of n) (sym (template_test n) ∙ h)
  where
    at : (x : Role) → is_template x ≡ false → passes_to_template x ≡ true
    at TemplateRole k = absurd (cc)
    at _ k = refl

abbrev pub ends_nowhere : QualName → Bool
ends_nowhere n = false

template_in_names : (ns : List QualName) → has_template ns ≡ true → in_scope (is_html_named (codes "template")) ends_nowhere ns ≡ true
unfolding is_html_named html_namespace
template_in_names [] h = absurd (cc)
template_in_names (n ∷ ns) h = at (is_html_named (codes "template") n) h (template_in_names ns)
  where
    at : (b : Bool) → (b || has_template ns) ≡ true → (has_template ns ≡ true → in_scope (is_html_named (codes "template")) ends_nowhere ns ≡ true) → cond b true (in_scope (is_html_named (codes "template")) ends_nowhere ns) ≡ true
    at true k f = refl
    at false k f = f k

pub template_cut : (ns : List QualName) → has_template ns ≡ true → Cut passes_to_template TemplateRole (roles ns) (roles (cut_names (is_html_named (codes "template")) ns))
unfolding role_of_local
template_cut ns h = cut_roles (is_html_named (codes "template")) ends_nowhere passes_to_template TemplateRole (λ n k. role_named (codes "template") n k ∙ plain) (λ n k l. template_passes n k) ns (template_in_names ns h)
  where
    plain : role_of_local (codes "template") ≡ TemplateRole
    plain = refl

-- what a template is put on
fits_left : (s : Situation) (m : InsertionMode) (ns : List Role) → takes_template m ≡ true → Fits s m ns → Left (is_whole s.context) ns × Rooted ns
fits_left s m ns h f = at (goes m h)
  where
    goes : (m : InsertionMode) → takes_template m ≡ true → (goes_by_body m ≡ true) ⊎ ((m ≡ InHead) ⊎ (m ≡ AfterHead))
    goes InHead k = inr (inl refl)
    goes AfterHead k = inr (inr refl)
    goes _ k = inl k

    at : (goes_by_body m ≡ true) ⊎ ((m ≡ InHead) ⊎ (m ≡ AfterHead)) → Left (is_whole s.context) ns × Rooted ns
    at (inl k) = let g = fits_grounded s m ns k f in (grounded_left g, grounded_rooted g f.known.root)
    at (inr (inl k)) = let g : Fits s InHead ns = subst (λ x. Fits s x ns) k f in subst (λ w. Left w ns × Rooted ns) (sym g.place.0) (subst (λ l. Left true l × Rooted l) (sym g.place.1) (head_left, refl))
    at (inr (inr k)) = let g : Fits s AfterHead ns = subst (λ x. Fits s x ns) k f in subst (λ w. Left w ns × Rooted ns) (sym g.place.0) (subst (λ l. Left true l × Rooted l) (sym g.place.1.0) (root_left, refl))

module _ (s : Situation) (ns : List QualName) where
  -- parts of tables are put
  put : (m : InsertionMode) (c : StackContext) (is : QualName → Bool) (x : Role) (n : QualName) → is_silent m ≡ true → ((k : QualName) → is k ≡ ends c (role_of k)) → role_of n ≡ x → Fits s m (x ∷ down_to c (roles ns)) → NamesFit s m (n ∷ down_names is ns)
  put m c is x n h f e k = names_fit s m (n ∷ down_names is ns) h (subst (λ y. Fits s m (y ∷ roles (down_names is ns))) (sym e) (subst (λ l. Fits s m (x ∷ l)) (sym (down_roles c is f ns)) k))

  pub names_caption_put : (n : QualName) → role_of n ≡ CaptionRole → NamesFit s InTable ns → NamesFit s InCaption (n ∷ down_names is_table_scope ns)
  names_caption_put n e f = put InCaption TableContext is_table_scope CaptionRole n refl table_scope_test e (in_table_caption s (roles ns) f.fits)

  pub names_colgroup_put : (n : QualName) → role_of n ≡ ColgroupRole → NamesFit s InTable ns → NamesFit s InColumnGroup (n ∷ down_names is_table_scope ns)
  names_colgroup_put n e f = put InColumnGroup TableContext is_table_scope ColgroupRole n refl table_scope_test e (in_table_colgroup s (roles ns) f.fits)

  pub names_section_put : (n : QualName) → role_of n ≡ SectionRole → NamesFit s InTable ns → NamesFit s InTableBody (n ∷ down_names is_table_scope ns)
  names_section_put n e f = put InTableBody TableContext is_table_scope SectionRole n refl table_scope_test e (in_table_section s (roles ns) f.fits)

  pub names_row_put : (n : QualName) → role_of n ≡ RowRole → NamesFit s InTableBody ns → NamesFit s InRow (n ∷ down_names is_table_body_context ns)
  names_row_put n e f = put InRow TableBodyContext is_table_body_context RowRole n refl table_body_context_test e (in_table_body_row s (roles ns) f.fits)

  pub names_cell_put : (n : QualName) → role_of n ≡ CellRole → NamesFit s InRow ns → NamesFit s InCell (n ∷ down_names is_table_row_context ns)
  names_cell_put n e f = put InCell TableRowContext is_table_row_context CellRole n refl table_row_context_test e (in_row_cell s (roles ns) f.fits)

  -- parts of tables are closed, where table scope has them
  pub names_caption_closed : in_scope (is_html_named (codes "caption")) is_table_scope ns ≡ true → NamesFit s InCaption ns → NamesFit s InTable (cut_names (is_html_named (codes "caption")) ns)
  unfolding role_of_local
  names_caption_closed h f =
      let rest = cut_names (is_html_named (codes "caption")) ns in
      names_fit s InTable rest refl (in_caption_close s (roles ns) (roles rest) (table_cut CaptionRole (codes "caption") ns refl h) f.fits)

  pub names_row_closed : in_scope (is_html_named (codes "tr")) is_table_scope ns ≡ true → NamesFit s InRow ns → NamesFit s InTableBody (later_names (down_names is_table_row_context ns))
  unfolding role_of_local
  names_row_closed h f =
      let first = first_row (roles ns) (named_in_scope (codes "tr") is_row refl ns h) in
      names_fit s InTableBody (later_names (down_names is_table_row_context ns)) refl
      (subst (Fits s InTableBody) (later_down TableRowContext is_table_row_context RowRole ns first.rest table_row_context_test first.down) (in_row_close s (roles ns) first.rest first.cut f.fits))

  names_section_found : role_in_scope is_section (ends TableContext) (roles ns) ≡ true → NamesFit s InTableBody ns → NamesFit s InTable (later_names (down_names is_table_body_context ns))
  names_section_found h f =
      let first = first_section (roles ns) h in
      names_fit s InTable (later_names (down_names is_table_body_context ns)) refl
      (subst (Fits s InTable) (later_down TableBodyContext is_table_body_context SectionRole ns first.rest table_body_context_test first.down) (in_table_body_close s (roles ns) first.rest first.cut f.fits))

  pub names_section_closed : (local : List ℕ) → role_of_local local ≡ SectionRole → in_scope (is_html_named local) is_table_scope ns ≡ true → NamesFit s InTableBody ns → NamesFit s InTable (later_names (down_names is_table_body_context ns))
  names_section_closed local e h f = names_section_found (named_in_scope local is_section (ap is_section e) ns h) f

  -- also where any of them is found
  pub names_section_left : (test : QualName → Bool) → ((n : QualName) → test n ≡ true → is_section (role_of n) ≡ true) → in_scope test is_table_scope ns ≡ true → NamesFit s InTableBody ns
      → NamesFit s InTable (later_names (down_names is_table_body_context ns))
  names_section_left test e h f = names_section_found (found_in_scope test is_section e ns h) f

  -- a cell by its name
  pub names_cell_ended : (local : List ℕ) → role_of_local local ≡ CellRole → in_scope (is_html_named local) is_table_scope ns ≡ true → NamesFit s InCell ns → NamesFit s InRow (cut_names (is_html_named local) ns)
  names_cell_ended local e h f =
      let rest = cut_names (is_html_named local) ns in
      names_fit s InRow rest refl (in_cell_close s (roles ns) (roles rest) (table_cut CellRole local ns e h) f.fits)

  pub names_cell_closed : NamesFit s InCell ns → NamesFit s InRow (cut_names is_cell ns)
  names_cell_closed f =
      let rest = cut_names is_cell ns in
      let cut = cut_roles is_cell is_table_scope passes_table_scope CellRole cell_role (λ n k l. table_passes n l) ns (cell_in_names f) in
      names_fit s InRow rest refl (in_cell_close s (roles ns) (roles rest) cut f.fits)
    where
      cell_only : (x : Role) → is_cell_role x ≡ true → x ≡ CellRole
      cell_only CellRole k = refl
      cell_only _ k = absurd (cc)

      cell_role : (n : QualName) → is_cell n ≡ true → role_of n ≡ CellRole
      cell_role n k = cell_only (role_of n) (sym (cell_test n) ∙ k)

      cell_in_names : NamesFit s InCell ns → in_scope is_cell is_table_scope ns ≡ true
      cell_in_names k = scope_roles is_cell is_table_scope is_cell_role (ends TableContext) cell_test table_scope_test ns ∙ k.fits.place.1.1

  -- a table is put, and closed
  pub names_table_put : (m : InsertionMode) (n x : QualName) → goes_by_body m ≡ true → role_of n ≡ TableRole → NamesFit s m (x ∷ ns) → NamesFit s InTable (n ∷ x ∷ ns)
  names_table_put m n x h e f = names_fit s InTable (n ∷ x ∷ ns) refl (subst (λ y. Fits s InTable (y ∷ roles (x ∷ ns))) (sym e) (table_fits s m (role_of x) (roles ns) h f.fits))

  pub names_table_closed : (m : InsertionMode) → goes_by_body m ≡ true → in_scope (is_html_named (codes "table")) is_table_scope ns ≡ true → NamesFit s m ns
      → NamesFit s (reset s (roles (cut_names (is_html_named (codes "table")) ns))) (cut_names (is_html_named (codes "table")) ns)
  unfolding role_of_local
  names_table_closed m h k f =
      reset_named s (cut_names (is_html_named (codes "table")) ns) (table_closed s (table_cut TableRole (codes "table") ns refl k) (fits_grounded s m (roles ns) h f.fits) f.fits.known)

  -- a template is put, and closed; and its mode
  pub names_template_closed : (m : InsertionMode) → goes_by_body m ≡ true → has_template ns ≡ true → NamesFit s m ns
      → NamesFit (without_template s) (reset (without_template s) (roles (cut_names (is_html_named (codes "template")) ns))) (cut_names (is_html_named (codes "template")) ns)
  names_template_closed m h k f =
      reset_named (without_template s) (cut_names (is_html_named (codes "template")) ns)
      (template_closed s (template_cut ns k) (fits_grounded s m (roles ns) h f.fits) f.fits.known)

  pub names_template_mode : (m : InsertionMode) → is_template_mode m ≡ true → NamesFit s InTemplate ns → NamesFit (with_last_mode m s) m ns
  names_template_mode m h f = names_fit (with_last_mode m s) m ns (kind_silent m h) (in_template_other s m (roles ns) h f.fits)

  pub names_template_put : (m : InsertionMode) (n : QualName) → takes_template m ≡ true → role_of n ≡ TemplateRole → NamesFit s m ns → NamesFit (with_template s) InTemplate (n ∷ ns)
  names_template_put m n h e f =
      let l = fits_left s m (roles ns) h f.fits in
      names_fit (with_template s) InTemplate (n ∷ ns) refl (subst (λ x. Fits (with_template s) InTemplate (x ∷ roles ns)) (sym e) (template_fits s (roles ns) l.0 l.1 f.fits.known))

  -- a frameset in place of the body, and framesets in one
  pub names_frameset_put : (n r : QualName) → role_of n ≡ FramesetRole → role_of r ≡ HtmlRole → s.frameset_ok ≡ true → Known s (roles ns) → NamesFit s InFrameset (n ∷ r ∷ [])
  names_frameset_put n r e h o k =
      names_fit s InFrameset (n ∷ r ∷ []) refl (subst (λ x. Fits s InFrameset (x ∷ role_of r ∷ [])) (sym e) (subst (λ x. Fits s InFrameset (FramesetRole ∷ x ∷ [])) (sym h) (frameset_fits s (roles ns) o k)))

  pub names_frameset_pushed : (n x : QualName) → role_of n ≡ FramesetRole → NamesFit s InFrameset (x ∷ ns) → NamesFit s InFrameset (n ∷ x ∷ ns)
  names_frameset_pushed n x e f = names_fit s InFrameset (n ∷ x ∷ ns) refl (subst (λ y. Fits s InFrameset (y ∷ roles (x ∷ ns))) (sym e) (frameset_pushed s (role_of x) (roles ns) f.fits))

  pub names_frameset_popped : (n x : QualName) → NamesFit s InFrameset (n ∷ x ∷ ns) → NamesFit s InFrameset (x ∷ ns)
  names_frameset_popped n x f = names_fit s InFrameset (x ∷ ns) refl (frameset_popped s (role_of n) (role_of x) (roles ns) f.fits)

  pub names_frameset_left : NamesFit s InFrameset ns → NamesFit s AfterFrameset ns
  names_frameset_left f = names_fit s AfterFrameset ns refl (frameset_left s (roles ns) f.fits)

  pub names_frameset_ended : NamesFit s AfterFrameset ns → NamesFit s AfterAfterFrameset ns
  names_frameset_ended f = names_fit s AfterAfterFrameset ns refl (record { known = f.fits.known; place = f.fits.place })

  pub names_after_frameset_pushed : (n x : QualName) → role_of n ≡ PlainRole → NamesFit s AfterAfterFrameset (x ∷ ns) → NamesFit s AfterAfterFrameset (n ∷ x ∷ ns)
  names_after_frameset_pushed n x e f = names_fit s AfterAfterFrameset (n ∷ x ∷ ns) refl (subst (λ y. Fits s AfterAfterFrameset (y ∷ roles (x ∷ ns))) (sym e) (after_frameset_pushed s (role_of x) (roles ns) f.fits))

  -- the column group that is the current node is popped
  pub names_colgroup_popped : (n : QualName) → role_of n ≡ ColgroupRole → NamesFit s InColumnGroup (n ∷ ns) → NamesFit s InTable ns
  names_colgroup_popped n e f =
      names_fit s InTable ns refl (in_column_group_pop s (roles (n ∷ ns)) (roles ns) (subst (λ x. Cut passes_table_scope ColgroupRole (x ∷ roles ns) (roles ns)) (sym e) here) f.fits)
