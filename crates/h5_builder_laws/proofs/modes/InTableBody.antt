-- HTML standard, section 13.2.6.4.13, the "in table body" insertion mode: each of its rows is lawful.
use Rattle.std.proofs.Common.{◌||◌, ◌∙◌, ◌≡◌, List, [], codes, false, refl, sym, true, ℕ}
use Rattle.h5_names.specs.KnownNames.{name_text}
use Rattle.h5_names.specs.declared.known_name.KnownName.TheVariants.{Col, Tr}
use Rattle.h5_token.specs.TokenText.{TagText}
use Rattle.h5_token.specs.declared.tag.TagKind.{TagKind}
use Rattle.h5_token.specs.declared.tag.TagKind.TheVariants.{EndTag, StartTag}
use Rattle.h5_tables.specs.TagSets.{cell_names, is_one_of, is_table_body_context}
use Rattle.h5_tables.specs.TurnText.{TagTurn, TurnText}
use Rattle.h5_tables.specs.declared.modes.InsertionMode.TheVariants.{InColumnGroup, InRow, InTable, InTableBody}
use Rattle.h5_builder_spec.specs.ByName.{by_kind, by_name, named, of_tag}
use Rattle.h5_builder_spec.specs.Rows.{Row}
use Rattle.h5_builder_spec.specs.Sound.{situation_of}
use Rattle.h5_builder_spec.specs.World.{World, names_of}
use Rattle.h5_builder_spec.specs.reset.Roles.{role_of_local}
use Rattle.h5_builder_spec.specs.formatting.FormattingNames.{html_name}
use Rattle.h5_builder_spec.specs.modes.InTable.{in_table, row_part_names}
use Rattle.h5_builder_spec.specs.modes.InTableBody.{in_table_body, in_table_body_close, in_table_body_end, in_table_body_end_section, in_table_body_start, in_table_body_start_cell, in_table_body_start_row, in_table_body_tag, is_table_section, section_closing_names}
use Rattle.h5_builder_spec.specs.modes.Tables.{in_table_scope, named_in_table_scope, table_section_names}
use Rattle.h5_builder_spec.proofs.fitting.NamesTableLaws.{names_row_put, names_section_closed, names_section_left}
use Rattle.h5_builder_spec.proofs.fitting.TableSectionLaws.{section_test}
use Rattle.h5_builder_spec.proofs.roles.RoleLaws.{role_made}
use Rattle.h5_builder_spec.proofs.rows.ByNameLaws.{holds_by_name, of_one, ◌&◌}
use Rattle.h5_builder_laws.proofs.LawfulRow.{IsLawfulFor, IsLawfulTag, lawful_if, lawful_ignored, lawful_row}
use Rattle.h5_builder_laws.proofs.modes.InTable.{table_other_lawful, table_tag_lawful}
use Rattle.h5_builder_laws.proofs.modes.TablePartLaws.{left_at, put, section_local}
use Rattle.h5_builder_laws.proofs.turns.AgainLaws.{kind_of_start, kind_of_tag, part_names}
use Rattle.h5_builder_laws.proofs.turns.RowEdges.{either_of, end_table, no_col}
use Rattle.h5_builder_spec.proofs.fitting.NamesBodyLaws.{role_known}
use Rattle.h5_builder_laws.proofs.turns.Ranks as edges

-- NAMES

section_cells : (name : List ℕ) → is_one_of cell_names name ≡ true → edges.Again (kind_of_start name) InTableBody InRow
unfolding kind_of_start cell_names
section_cells name h = of_one (λ n. edges.Again (kind_of_start n) InTableBody InRow) cell_names name (edges.cell_of_section, (edges.cell_of_section, tt)) h

section_closing : (name : List ℕ) → is_one_of section_closing_names name ≡ true → edges.Again (kind_of_start name) InTableBody InTable
unfolding kind_of_start part_names cell_names section_closing_names
section_closing name h =
    of_one (λ n. edges.Again (kind_of_start n) InTableBody InTable) section_closing_names name
    (edges.part_of_section, (edges.col_of_section, (edges.part_of_section, (edges.part_of_section, (edges.part_of_section, (edges.part_of_section, tt)))))) h

section_no_part : (A : Type 0) (name : List ℕ) → named Tr name ≡ false → is_one_of cell_names name ≡ false → is_one_of row_part_names name ≡ true → A
unfolding cell_names row_part_names
section_no_part A name a b h = absurd (either_of (named Tr name) (is_one_of cell_names name) (of_one (λ n. (named Tr n || is_one_of cell_names n) ≡ true) row_part_names name (refl, (refl, (refl, tt))) h) a b)

col_closes_section : is_one_of section_closing_names (name_text Col) ≡ true
unfolding section_closing_names
col_closes_section = refl

-- THE ROWS

module _ (k : TagKind) (tag : TagText) (w : World) where
  abbrev IsLawfulInSection : Row → Type 0
  IsLawfulInSection r = IsLawfulTag k tag InTableBody w r

  start_row_lawful : named Tr tag.name ≡ true → IsLawfulInSection (in_table_body_start_row tag w)
  unfolding role_of_local names_of
  start_row_lawful p = lawful_row (in_table_body_start_row tag w) (tt, (tt, (tt, tt)))
      (λ choices s h. put choices w s is_table_body_context InRow tag.name tag.attrs tag.had_duplicate_attributes (names_row_put (situation_of w) (names_of w) (html_name tag.name) (role_made tag.name ∙ role_known Tr tag.name p) h)) (tt, (refl, tt)) tt tt

  start_cell_lawful : edges.Again (kind_of_tag k tag.name) InTableBody InRow → IsLawfulInSection (in_table_body_start_cell tag w)
  unfolding role_of_local
  start_cell_lawful leads = lawful_row (in_table_body_start_cell tag w) (tt, (tt, tt))
      (λ choices s h. put choices w s is_table_body_context InRow (codes "tr") [] false (names_row_put (situation_of w) (names_of w) (html_name (codes "tr")) (role_made (codes "tr")) h)) (tt, (refl, tt)) tt leads

  end_section_lawful : is_one_of table_section_names tag.name ≡ true → IsLawfulInSection (in_table_body_end_section tag w)
  unfolding in_table_body_end_section names_of
  end_section_lawful p = lawful_if (named_in_table_scope tag.name w) _ (λ e. lawful_row _ (tt, (tt, (tt, tt)))
      (λ choices s h. left_at choices w s is_table_body_context InTable (names_section_closed (situation_of w) (names_of w) tag.name (section_local tag.name p) e h)) (tt, (refl, tt)) tt tt)

  close_lawful : edges.Again (kind_of_tag k tag.name) InTableBody InTable → IsLawfulInSection (in_table_body_close tag w)
  unfolding in_table_body_close
  close_lawful leads = lawful_if (in_table_scope is_table_section w) _ (λ e. lawful_row _ (tt, (tt, tt))
      (λ choices s h. left_at choices w s is_table_body_context InTable (names_section_left (situation_of w) (names_of w) is_table_section (λ n j. sym (section_test n) ∙ j) e h)) (tt, (refl, tt)) tt leads)

tag_lawful : (k : TagKind) (tag : TagText) (w : World) → tag.kind ≡ k → IsLawfulTag k tag InTableBody w (by_kind k (by_name in_table_body_start (of_tag in_table) tag w) (by_name in_table_body_end (of_tag in_table) tag w))
unfolding in_table_body_start in_table_body_end
tag_lawful StartTag tag w e = holds_by_name (IsLawfulTag StartTag tag InTableBody w) in_table_body_start (of_tag in_table) tag w
    (
    (λ p. start_row_lawful StartTag tag w p)
    & (λ p. start_cell_lawful StartTag tag w (section_cells tag.name p))
    & (λ p. close_lawful StartTag tag w (section_closing tag.name p))
    & tt
    )
    (λ n. table_tag_lawful InTableBody refl w StartTag tag e (λ f. ((λ p. no_col section_closing_names (edges.Again (kind_of_start tag.name) InTableBody InColumnGroup) tag.name col_closes_section n.1.1.0 p), (λ p. section_no_part (edges.Again (kind_of_start tag.name) InTableBody InTableBody) tag.name n.0 n.1.0 p))))
tag_lawful EndTag tag w e = holds_by_name (IsLawfulTag EndTag tag InTableBody w) in_table_body_end (of_tag in_table) tag w
    (
    (λ p. end_section_lawful EndTag tag w p)
    & (λ p. close_lawful EndTag tag w (end_table InTableBody InTable tag.name edges.end_part_of_section p))
    & (λ p. lawful_ignored)
    & tt
    )
    (λ n. table_tag_lawful InTableBody refl w EndTag tag e (λ f. absurd (cc)))

pub lawful_in_table_body : (t : TurnText) (w : World) → IsLawfulFor t InTableBody w (in_table_body t w)
unfolding in_table_body_tag
lawful_in_table_body (TagTurn tag) w = tag_lawful tag.kind tag w refl
lawful_in_table_body t w = table_other_lawful InTableBody refl w t refl
