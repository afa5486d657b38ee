-- HTML standard, section 13.2.6.4.15, the "in cell" insertion mode: each of its rows is lawful.
use Rattle.std.proofs.Common.{List, ap, false, refl, subst, sym, true, ℕ, ◌∙◌, ◌≡◌}
use Rattle.h5_names.specs.declared.known_name.KnownName.TheVariants.{Html}
use Rattle.h5_names.specs.declared.qualified.QualName.{QualName}
use Rattle.h5_token.specs.TokenText.{TagText}
use Rattle.h5_token.specs.declared.tag.TagKind.TheVariants.{EndTag, StartTag}
use Rattle.h5_token.specs.declared.tag.TagKind.{TagKind}
use Rattle.h5_interface.specs.SinkChoices.{SinkChoices}
use Rattle.h5_tables.specs.TagSets.{cell_names, implied_names, is_cell, is_html_named, is_implied, is_one_of, is_table_scope}
use Rattle.h5_tables.specs.TurnText.{TagTurn, TurnText}
use Rattle.h5_tables.specs.declared.modes.InsertionMode.TheVariants.{InCell, InRow}
use Rattle.h5_tables.specs.declared.modes.InsertionMode.{InsertionMode}
use Rattle.h5_builder_spec.specs.ByName.{NonePasses, by_kind, by_name, of_tag}
use Rattle.h5_builder_spec.specs.Changes.{pop_until_named}
use Rattle.h5_builder_spec.specs.Rows.{Row}
use Rattle.h5_builder_spec.specs.Sound.{situation_of}
use Rattle.h5_builder_spec.specs.World.{World, names_of}
use Rattle.h5_builder_spec.specs.inner.NamesFit.{NamesFit}
use Rattle.h5_builder_spec.specs.reset.Roles.{role_of_local}
use Rattle.h5_builder_spec.specs.formatting.Formatting.{clear_active_formatting_to_marker}
use Rattle.h5_builder_spec.specs.modes.InBody.{in_body}
use Rattle.h5_builder_spec.specs.modes.InCell.{close_the_cell, in_cell, in_cell_closing_ends, in_cell_end, in_cell_end_cell, in_cell_end_structure, in_cell_ignored_ends, in_cell_start, in_cell_start_structure, in_cell_tag}
use Rattle.h5_builder_spec.specs.modes.Shared.{table_structure_names}
use Rattle.h5_builder_spec.specs.modes.Tables.{in_table_scope, named_in_table_scope}
use Rattle.h5_builder_spec.specs.stack.Closing.{generate_implied_end_tags, pop_until_cell}
use Rattle.h5_builder_spec.specs.stack.Scope.{in_scope}
use Rattle.h5_builder_spec.proofs.changes.ClosingLaws.{named_not_implied, names-all_implied, still_in_scope}
use Rattle.h5_builder_spec.proofs.changes.ListsLaws.{IsSteady}
use Rattle.h5_builder_spec.proofs.changes.NameLaws.{names-cut, names-until_cell}
use Rattle.h5_builder_spec.proofs.fitting.NamesBodyLaws.{is_of_table, no_part_where_ruled}
use Rattle.h5_builder_spec.proofs.fitting.NamesTableLaws.{names_cell_closed, names_cell_ended}
use Rattle.h5_builder_spec.proofs.modes.ReadyInLaws.{in_implied, ready_in}
use Rattle.h5_builder_spec.proofs.rows.ByNameLaws.{holds_by_name, not_ruled, of_one, ◌&◌}
use Rattle.h5_builder_spec.proofs.rows.KeptLaws.{FitsAs, Kept}
use Rattle.h5_builder_laws.proofs.LawfulRow.{IsLawfulFor, IsLawfulTag, lawful_if, lawful_ignored, lawful_row}
use Rattle.h5_builder_laws.proofs.modes.InBody.{body_other_lawful, body_tag_lawful}
use Rattle.h5_builder_laws.proofs.modes.TablePartLaws.{cell_local, fits_cleared, fits_cut_at}
use Rattle.h5_builder_laws.proofs.turns.AgainLaws.{kind_of_end, kind_of_start, kind_of_tag, part_end_names, part_names}
use Rattle.h5_builder_laws.proofs.turns.Ranks as edges

-- NAMES

-- no cell has an implied end tag
cell_named_not_implied : (local : List ℕ) → is_one_of cell_names local ≡ true → (n : QualName) → is_implied n ≡ true → is_html_named local n ≡ false
unfolding implied_names cell_names
cell_named_not_implied local p n h = named_not_implied cell_names local n refl p h

-- an end tag that a cell doesn't name is of no part of a table
no_part_in_cell : (l : List ℕ) → NonePasses in_cell_end l → is_of_table (role_of_local l) ≡ false
unfolding in_cell_end cell_names in_cell_closing_ends in_cell_ignored_ends
no_part_in_cell l n = no_part_where_ruled in_cell_end l refl n

-- a start tag of a part of a table, and an end tag, lead to the row
cell_structure : (name : List ℕ) → is_one_of table_structure_names name ≡ true → edges.Again (kind_of_start name) InCell InRow
unfolding kind_of_start part_names table_structure_names cell_names
cell_structure name h =
    of_one (λ n. edges.Again (kind_of_start n) InCell InRow) table_structure_names name
    (edges.part_of_cell, (edges.col_of_cell, (edges.part_of_cell, (edges.part_of_cell, (edges.cell_of_cell, (edges.part_of_cell, (edges.cell_of_cell, (edges.part_of_cell, (edges.row_of_cell, tt))))))))) h

cell_closing_ends : (name : List ℕ) → is_one_of in_cell_closing_ends name ≡ true → edges.Again (kind_of_end name) InCell InRow
unfolding kind_of_end part_end_names in_cell_closing_ends
cell_closing_ends name h =
    of_one (λ n. edges.Again (kind_of_end n) InCell InRow) in_cell_closing_ends name
    (edges.end_part_of_cell, (edges.end_part_of_cell, (edges.end_part_of_cell, (edges.end_part_of_cell, (edges.end_part_of_cell, tt))))) h

-- THE OPEN ELEMENTS
fits_cut_at_cell : (m : InsertionMode) (w : World) → NamesFit (situation_of w) m (names_of (pop_until_cell w)) → FitsAs m (pop_until_cell w)
unfolding pop_until_cell
fits_cut_at_cell m w h = h

module _ (choices : SinkChoices) (w : World) (steady : IsSteady w) where
  abbrev ended : World
  ended = generate_implied_end_tags choices w

  cell_ended : (local : List ℕ) → is_one_of cell_names local ≡ true → named_in_table_scope local w ≡ true → FitsAs InCell w → FitsAs InRow (clear_active_formatting_to_marker (pop_until_named local (generate_implied_end_tags choices w)))
  cell_ended local p e h =
      let r = in_implied choices InCell refl w (ready_in InCell refl w steady h) in
      let found = ap (in_scope (is_html_named local) is_table_scope) (names-all_implied choices w) ∙ still_in_scope (is_html_named local) is_table_scope is_implied (cell_named_not_implied local p) (names_of w) e in
      fits_cleared InRow (pop_until_named local ended)
      (fits_cut_at InRow local ended (subst (NamesFit (situation_of ended) InRow) (sym (names-cut local ended)) (names_cell_ended (situation_of ended) (names_of ended) local (cell_local local p) found r.fit)))

  cell_closed : Kept choices w InCell (close_the_cell w)
  cell_closed h =
      let r = in_implied choices InCell refl w (ready_in InCell refl w steady h) in
      fits_cleared InRow (pop_until_cell ended)
      (fits_cut_at_cell InRow ended (subst (NamesFit (situation_of ended) InRow) (sym (names-until_cell ended)) (names_cell_closed (situation_of ended) (names_of ended) r.fit)))

-- THE ROWS

module _ (k : TagKind) (tag : TagText) (w : World) where
  abbrev IsLawfulInCell : Row → Type 0
  IsLawfulInCell r = IsLawfulTag k tag InCell w r

  end_cell_lawful : is_one_of cell_names tag.name ≡ true → IsLawfulInCell (in_cell_end_cell tag w)
  unfolding in_cell_end_cell names_of
  end_cell_lawful p = lawful_if (named_in_table_scope tag.name w) _ (λ e. lawful_row _ (tt, (tt, (tt, (tt, tt)))) (λ choices s. cell_ended choices w s tag.name p e) (tt, (refl, tt)) tt tt)

  close_lawful : edges.Again (kind_of_tag k tag.name) InCell InRow → IsLawfulInCell (close_the_cell w)
  close_lawful leads = lawful_row (close_the_cell w) (tt, (tt, (tt, tt))) (λ choices s. cell_closed choices w s) (tt, (refl, tt)) tt leads

  start_structure_lawful : edges.Again (kind_of_tag k tag.name) InCell InRow → IsLawfulInCell (in_cell_start_structure tag w)
  unfolding in_cell_start_structure
  start_structure_lawful leads = lawful_if (in_table_scope is_cell w) (close_the_cell w) (λ e. close_lawful leads)

  end_structure_lawful : edges.Again (kind_of_tag k tag.name) InCell InRow → IsLawfulInCell (in_cell_end_structure tag w)
  unfolding in_cell_end_structure
  end_structure_lawful leads = lawful_if (named_in_table_scope tag.name w) (close_the_cell w) (λ e. close_lawful leads)

tag_lawful : (k : TagKind) (tag : TagText) (w : World) → tag.kind ≡ k → IsLawfulTag k tag InCell w (by_kind k (by_name in_cell_start (of_tag in_body) tag w) (by_name in_cell_end (of_tag in_body) tag w))
unfolding in_cell_start in_cell_end cell_names in_cell_closing_ends in_cell_ignored_ends
tag_lawful StartTag tag w e = holds_by_name (IsLawfulTag StartTag tag InCell w) in_cell_start (of_tag in_body) tag w
    ((λ p. start_structure_lawful StartTag tag w (cell_structure tag.name p)) & tt)
    (λ n. body_tag_lawful InCell refl w StartTag tag e tt refl)
tag_lawful EndTag tag w e = holds_by_name (IsLawfulTag EndTag tag InCell w) in_cell_end (of_tag in_body) tag w
    (
    (λ p. end_cell_lawful EndTag tag w p)
    & (λ p. end_structure_lawful EndTag tag w (cell_closing_ends tag.name p))
    & (λ p. lawful_ignored)
    & tt
    )
    (λ n. body_tag_lawful InCell refl w EndTag tag e (no_part_in_cell tag.name n) (not_ruled in_cell_end Html tag.name refl n))

pub lawful_in_cell : (t : TurnText) (w : World) → IsLawfulFor t InCell w (in_cell t w)
unfolding in_cell_tag
lawful_in_cell (TagTurn tag) w = tag_lawful tag.kind tag w refl
lawful_in_cell t w = body_other_lawful InCell refl w refl t refl
