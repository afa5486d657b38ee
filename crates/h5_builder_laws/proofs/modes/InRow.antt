-- HTML standard, section 13.2.6.4.14, the "in row" insertion mode: each of its rows is lawful.
use Rattle.std.proofs.Common.{◌||◌, ◌∙◌, ◌∷◌, ◌≡◌, List, [], codes, false, refl, true, ℕ}
use Rattle.h5_names.specs.KnownNames.{name_text}
use Rattle.h5_names.specs.declared.known_name.KnownName.TheVariants.{Col}
use Rattle.h5_token.specs.TokenText.{TagText}
use Rattle.h5_token.specs.declared.tag.TagKind.{TagKind}
use Rattle.h5_token.specs.declared.tag.TagKind.TheVariants.{EndTag, StartTag}
use Rattle.h5_interface.specs.SinkChoices.{SinkChoices}
use Rattle.h5_tables.specs.TagSets.{cell_names, is_one_of, is_table_row_context}
use Rattle.h5_tables.specs.TurnText.{TagTurn, TurnText}
use Rattle.h5_tables.specs.declared.modes.InsertionMode.TheVariants.{InCell, InColumnGroup, InRow, InTableBody}
use Rattle.h5_builder_spec.specs.ByName.{by_kind, by_name, of_tag}
use Rattle.h5_builder_spec.specs.Changes.{pop, pop_until_current}
use Rattle.h5_builder_spec.specs.Rows.{Again, IsDone, Row, SetMode}
use Rattle.h5_builder_spec.specs.Sound.{situation_of}
use Rattle.h5_builder_spec.specs.World.{World, names_of}
use Rattle.h5_builder_spec.specs.formatting.Formatting.{insert_marker}
use Rattle.h5_builder_spec.specs.formatting.FormattingNames.{html_name}
use Rattle.h5_builder_spec.specs.modes.InRow.{close_the_row, in_row, in_row_end, in_row_end_section, in_row_start, in_row_start_cell, in_row_tag, row_closing_names}
use Rattle.h5_builder_spec.specs.modes.InTable.{in_table, row_part_names}
use Rattle.h5_builder_spec.specs.modes.Tables.{named_in_table_scope, table_section_names}
use Rattle.h5_builder_spec.proofs.changes.ListsLaws.{IsSteady}
use Rattle.h5_builder_spec.proofs.fitting.NamesTableLaws.{names_cell_put, names_row_closed}
use Rattle.h5_builder_spec.proofs.roles.RoleLaws.{role_made}
use Rattle.h5_builder_spec.proofs.rows.ByNameLaws.{holds_by_name, of_one, ◌&◌}
use Rattle.h5_builder_spec.proofs.rows.KeptLaws.{FitsAs}
use Rattle.h5_builder_laws.proofs.LawfulRow.{IsLawfulFor, IsLawfulTag, lawful_if, lawful_ignored, lawful_row}
use Rattle.h5_builder_laws.proofs.modes.InTable.{table_other_lawful, table_tag_lawful}
use Rattle.h5_builder_laws.proofs.modes.TablePartLaws.{cell_local, left_at, put}
use Rattle.h5_builder_laws.proofs.turns.AgainLaws.{kind_of_end, kind_of_start, kind_of_tag, part_end_names, part_names}
use Rattle.h5_builder_laws.proofs.turns.RowEdges.{either_of, end_table, no_col}
use Rattle.h5_builder_laws.proofs.turns.Ranks as edges

-- NAMES

row_closing : (name : List ℕ) → is_one_of row_closing_names name ≡ true → edges.Again (kind_of_start name) InRow InTableBody
unfolding kind_of_start part_names cell_names row_closing_names
row_closing name h =
    of_one (λ n. edges.Again (kind_of_start n) InRow InTableBody) row_closing_names name
    (edges.part_of_row, (edges.col_of_row, (edges.part_of_row, (edges.part_of_row, (edges.part_of_row, (edges.part_of_row, (edges.row_of_row, tt))))))) h

row_section_ends : (name : List ℕ) → is_one_of table_section_names name ≡ true → edges.Again (kind_of_end name) InRow InTableBody
unfolding kind_of_end part_end_names table_section_names
row_section_ends name h =
    of_one (λ n. edges.Again (kind_of_end n) InRow InTableBody) table_section_names name (edges.end_part_of_row, (edges.end_part_of_row, (edges.end_part_of_row, tt))) h

row_no_part : (A : Type 0) (name : List ℕ) → is_one_of cell_names name ≡ false → is_one_of row_closing_names name ≡ false → is_one_of row_part_names name ≡ true → A
unfolding cell_names row_part_names row_closing_names
row_no_part A name a b h =
    absurd (either_of (is_one_of cell_names name) (is_one_of row_closing_names name) (of_one (λ n. (is_one_of cell_names n || is_one_of row_closing_names n) ≡ true) row_part_names name (refl, (refl, (refl, tt))) h) a b)

col_closes_row : is_one_of row_closing_names (name_text Col) ≡ true
unfolding row_closing_names
col_closes_row = refl

-- THE ROWS

module _ (k : TagKind) (tag : TagText) (w : World) where
  abbrev IsLawfulInRow : Row → Type 0
  IsLawfulInRow r = IsLawfulTag k tag InRow w r

  row_left : (choices : SinkChoices) → IsSteady w → named_in_table_scope (codes "tr") w ≡ true → FitsAs InRow w → FitsAs InTableBody (pop choices (pop_until_current is_table_row_context w))
  row_left choices s e h = left_at choices w s is_table_row_context InTableBody (names_row_closed (situation_of w) (names_of w) e h)

  start_cell_lawful : is_one_of cell_names tag.name ≡ true → IsLawfulInRow (in_row_start_cell tag w)
  unfolding insert_marker names_of
  start_cell_lawful p = lawful_row (in_row_start_cell tag w) (tt, (tt, (tt, (tt, tt))))
      (λ choices s h. put choices w s is_table_row_context InCell tag.name tag.attrs tag.had_duplicate_attributes (names_cell_put (situation_of w) (names_of w) (html_name tag.name) (role_made tag.name ∙ cell_local tag.name p) h)) (tt, (refl, tt)) tt tt

  end_row_lawful : IsLawfulInRow (close_the_row (SetMode InTableBody ∷ []) IsDone w)
  unfolding close_the_row names_of
  end_row_lawful = lawful_if (named_in_table_scope (codes "tr") w) _ (λ e. lawful_row _ (tt, (tt, (tt, tt))) (λ choices s. row_left choices s e) (tt, (refl, tt)) tt tt)

  close_lawful : edges.Again (kind_of_tag k tag.name) InRow InTableBody → IsLawfulInRow (close_the_row [] (Again InTableBody) w)
  unfolding close_the_row
  close_lawful leads = lawful_if (named_in_table_scope (codes "tr") w) _ (λ e. lawful_row _ (tt, (tt, tt)) (λ choices s. row_left choices s e) (tt, (refl, tt)) tt leads)

  end_section_lawful : edges.Again (kind_of_tag k tag.name) InRow InTableBody → IsLawfulInRow (in_row_end_section tag w)
  unfolding in_row_end_section
  end_section_lawful leads = lawful_if (named_in_table_scope tag.name w) (close_the_row [] (Again InTableBody) w) (λ e. close_lawful leads)

tag_lawful : (k : TagKind) (tag : TagText) (w : World) → tag.kind ≡ k → IsLawfulTag k tag InRow w (by_kind k (by_name in_row_start (of_tag in_table) tag w) (by_name in_row_end (of_tag in_table) tag w))
unfolding in_row_start in_row_end
tag_lawful StartTag tag w e = holds_by_name (IsLawfulTag StartTag tag InRow w) in_row_start (of_tag in_table) tag w
    (
    (λ p. start_cell_lawful StartTag tag w p)
    & (λ p. close_lawful StartTag tag w (row_closing tag.name p))
    & tt
    )
    (λ n. table_tag_lawful InRow refl w StartTag tag e (λ f. ((λ p. no_col row_closing_names (edges.Again (kind_of_start tag.name) InRow InColumnGroup) tag.name col_closes_row n.1.0 p), (λ p. row_no_part (edges.Again (kind_of_start tag.name) InRow InTableBody) tag.name n.0 n.1.0 p))))
tag_lawful EndTag tag w e = holds_by_name (IsLawfulTag EndTag tag InRow w) in_row_end (of_tag in_table) tag w
    (
    (λ p. end_row_lawful EndTag tag w)
    & (λ p. close_lawful EndTag tag w (end_table InRow InTableBody tag.name edges.end_part_of_row p))
    & (λ p. end_section_lawful EndTag tag w (row_section_ends tag.name p))
    & (λ p. lawful_ignored)
    & tt
    )
    (λ n. table_tag_lawful InRow refl w EndTag tag e (λ f. absurd (cc)))

pub lawful_in_row : (t : TurnText) (w : World) → IsLawfulFor t InRow w (in_row t w)
unfolding in_row_tag
lawful_in_row (TagTurn tag) w = tag_lawful tag.kind tag w refl
lawful_in_row t w = table_other_lawful InRow refl w t refl
