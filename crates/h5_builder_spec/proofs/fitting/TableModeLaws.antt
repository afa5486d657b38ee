-- The rows of the table modes that change names, from the facts of their modes.
use Rattle.std.proofs.Common.{◌≡◌, Bool, true, false, cond, not, ◌&&◌, List, [], ◌∷◌, refl, sym, subst}
use Rattle.h5_tables.specs.declared.modes.InsertionMode.TheVariants.{InTable, InCaption, InColumnGroup, InTableBody, InRow, InCell}
use Rattle.h5_builder_spec.specs.inner.Contexts.{StackContext, TableBodyContext, TableContext, TableRowContext, down_to, ends}
use Rattle.h5_builder_spec.specs.inner.Fits.{Fits}
use Rattle.h5_builder_spec.specs.reset.Situation.{Situation}
use Rattle.h5_builder_spec.specs.inner.Frames.{Cut, here, passes_table_scope, there}
use Rattle.h5_builder_spec.specs.reset.Roles.{CaptionRole, CellRole, ColgroupRole, HtmlRole, Role, RowRole, SectionRole, TableRole, TemplateRole, is_cell_role, is_row, is_section, role_in_scope}
use Rattle.h5_builder_spec.proofs.fitting.ChangeLaws.{close_fits, cut_down, put_fits}

module _ (s : Situation) (ns : List Role) where
  pub in_table_caption : Fits s InTable ns → Fits s InCaption (CaptionRole ∷ down_to TableContext ns)
  in_table_caption f = put_fits s CaptionRole ns refl f.place.0 f.place.1 tt f.known

  pub in_table_colgroup : Fits s InTable ns → Fits s InColumnGroup (ColgroupRole ∷ down_to TableContext ns)
  in_table_colgroup f = put_fits s ColgroupRole ns refl f.place.0 f.place.1 tt f.known

  pub in_table_section : Fits s InTable ns → Fits s InTableBody (SectionRole ∷ down_to TableContext ns)
  in_table_section f = put_fits s SectionRole ns refl f.place.0 f.place.1 tt f.known

  pub in_table_body_row : Fits s InTableBody ns → Fits s InRow (RowRole ∷ down_to TableBodyContext ns)
  in_table_body_row f = put_fits s RowRole ns refl f.place.0 f.place.1.0 f.place.1.1 f.known

  pub in_row_cell : Fits s InRow ns → Fits s InCell (CellRole ∷ down_to TableRowContext ns)
  in_row_cell f = put_fits s CellRole ns refl f.place.0 f.place.1.0 f.place.1.1 f.known

  pub in_caption_close : (rest : List Role) → Cut passes_table_scope CaptionRole ns rest → Fits s InCaption ns → Fits s InTable rest
  in_caption_close rest c f = close_fits s CaptionRole refl c f.place.0 f.place.1 f.known

  pub in_column_group_pop : (rest : List Role) → Cut passes_table_scope ColgroupRole ns rest → Fits s InColumnGroup ns → Fits s InTable rest
  in_column_group_pop rest c f = close_fits s ColgroupRole refl c f.place.0 f.place.1 f.known

  pub in_table_body_close : (rest : List Role) → Cut passes_table_scope SectionRole ns rest → Fits s InTableBody ns → Fits s InTable rest
  in_table_body_close rest c f = close_fits s SectionRole refl c f.place.0 f.place.1.0 f.known

  pub in_row_close : (rest : List Role) → Cut passes_table_scope RowRole ns rest → Fits s InRow ns → Fits s InTableBody rest
  in_row_close rest c f = close_fits s RowRole refl c f.place.0 f.place.1.0 f.known

  pub in_cell_close : (rest : List Role) → Cut passes_table_scope CellRole ns rest → Fits s InCell ns → Fits s InRow rest
  in_cell_close rest c f = close_fits s CellRole refl c f.place.0 f.place.1.0 f.known

-- what a test in table scope finds
abbrev pub passes_others : (Role → Bool) → Role → Bool
passes_others is n = not (is n) && not (ends TableContext n)

pub record Found (is : Role → Bool) (x : Role) (ns : List Role) : Type 0 where
  pub rest : List Role
  pub cut : Cut (passes_others is) x ns rest

others : (a b : Bool) → a ≡ false → b ≡ false → (not a && not b) ≡ true
others true b e h = absurd (cc)
others false true e h = absurd (cc)
others false false e h = refl

pub found : (is : Role → Bool) (x : Role) → ((n : Role) → is n ≡ true → n ≡ x) → (ns : List Role) → role_in_scope is (ends TableContext) ns ≡ true → Found is x ns
found is x f [] h = absurd (cc)
found is x f (n ∷ ns) h = at (is n) (ends TableContext n) refl refl h (found is x f ns)
  where
    at : (a b : Bool) → is n ≡ a → ends TableContext n ≡ b → cond a true (cond b false (role_in_scope is (ends TableContext) ns)) ≡ true → (role_in_scope is (ends TableContext) ns ≡ true → Found is x ns) → Found is x (n ∷ ns)
    at true b e k l r = record { rest = ns; cut = subst (λ y. Cut (passes_others is) x (y ∷ ns) ns) (sym (f n e)) here }
    at false true e k l r = absurd (cc)
    at false false e k l r = let g = r l in record { rest = g.rest; cut = there n (others (is n) (ends TableContext n) e k) g.cut }

pub neither : (a b : Bool) → (not a && not b) ≡ true → (a ≡ false) × (b ≡ false)
neither true b h = absurd (cc)
neither false true h = absurd (cc)
neither false false h = (refl, refl)

scope_passes : (n : Role) → ends TableContext n ≡ false → passes_table_scope n ≡ true
scope_passes HtmlRole h = absurd (cc)
scope_passes TableRole h = absurd (cc)
scope_passes TemplateRole h = absurd (cc)
scope_passes _ h = refl

pub others_pass : (is : Role → Bool) (x : Role) {ns rest : List Role} → Cut (passes_others is) x ns rest → Cut passes_table_scope x ns rest
others_pass is x here = here
others_pass is x (there n h c) = there n (scope_passes n (neither (is n) (ends TableContext n) h).1) (others_pass is x c)

-- the first cell, in InCell
pub cell_only : (n : Role) → is_cell_role n ≡ true → n ≡ CellRole
cell_only CellRole h = refl
cell_only _ h = absurd (cc)

-- a section in table scope is what the context of a body begins with
pub section_only : (n : Role) → is_section n ≡ true → n ≡ SectionRole
section_only SectionRole h = refl
section_only _ h = absurd (cc)

pub body_passed : (n : Role) → is_section n ≡ false → ends TableContext n ≡ false → ends TableBodyContext n ≡ false
body_passed SectionRole h e = absurd (cc)
body_passed HtmlRole h e = absurd (cc)
body_passed TemplateRole h e = absurd (cc)
body_passed _ h e = refl

pub record First (c : StackContext) (x : Role) (ns : List Role) : Type 0 where
  pub rest : List Role
  pub down : down_to c ns ≡ x ∷ rest
  pub cut : Cut passes_table_scope x ns rest

pub first_section : (ns : List Role) → role_in_scope is_section (ends TableContext) ns ≡ true → First TableBodyContext SectionRole ns
first_section ns h =
    let f = found is_section SectionRole section_only ns h in
    record {
      rest = f.rest;
      down = cut_down TableBodyContext (passes_others is_section) SectionRole (λ n k. let p = neither (is_section n) (ends TableContext n) k in body_passed n p.0 p.1) refl f.cut;
      cut = others_pass is_section SectionRole f.cut;
    }

-- and a row in table scope is what the context of a row begins with
row_only : (n : Role) → is_row n ≡ true → n ≡ RowRole
row_only RowRole h = refl
row_only _ h = absurd (cc)

row_passed : (n : Role) → is_row n ≡ false → ends TableContext n ≡ false → ends TableRowContext n ≡ false
row_passed RowRole h e = absurd (cc)
row_passed HtmlRole h e = absurd (cc)
row_passed TemplateRole h e = absurd (cc)
row_passed _ h e = refl

pub first_row : (ns : List Role) → role_in_scope is_row (ends TableContext) ns ≡ true → First TableRowContext RowRole ns
first_row ns h =
    let f = found is_row RowRole row_only ns h in
    record {
      rest = f.rest;
      down = cut_down TableRowContext (passes_others is_row) RowRole (λ n k. let p = neither (is_row n) (ends TableContext n) k in row_passed n p.0 p.1) refl f.cut;
      cut = others_pass is_row RowRole f.cut;
    }
