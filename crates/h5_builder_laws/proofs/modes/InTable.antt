-- HTML standard, section 13.2.6.4.9, the "in table" insertion mode: each of its rows is lawful, also in a section and a row.
use Rattle.std.proofs.Common.{List, [], codes, false, is_some, refl, subst, sym, true, ℕ, ◌||◌, ◌∙◌, ◌∷◌, ◌≡◌}
use Rattle.h5_names.specs.declared.known_name.KnownName.TheVariants.{Caption, Col, Colgroup, Html, Table}
use Rattle.h5_token.specs.TokenText.{TagText}
use Rattle.h5_token.specs.declared.tag.TagKind.TheVariants.{EndTag, StartTag}
use Rattle.h5_token.specs.declared.tag.TagKind.{TagKind}
use Rattle.h5_interface.specs.SinkChoices.{SinkChoices}
use Rattle.h5_tables.specs.TagSets.{cell_names, is_one_of, is_table_scope}
use Rattle.h5_tables.specs.TurnText.{CommentTurn, EofTurn, NullTurn, TagTurn, TextTurn, TurnText}
use Rattle.h5_tables.specs.declared.modes.InsertionMode.TheVariants.{InCaption, InColumnGroup, InRow, InTable, InTableBody, InTableText}
use Rattle.h5_tables.specs.declared.modes.InsertionMode.{InsertionMode}
use Rattle.h5_builder_spec.specs.ByName.{NonePasses, by_kind, by_name, named, of_tag}
use Rattle.h5_builder_spec.specs.Changes.{insert_and_pop_form, pop_until_current, pop_until_named, save_mode, set_foster}
use Rattle.h5_builder_spec.specs.Rows.{InsertMarker, PopUntilCurrent}
use Rattle.h5_builder_spec.specs.Sound.{situation_of}
use Rattle.h5_builder_spec.specs.World.{World, names_of}
use Rattle.h5_builder_spec.specs.inner.Fits.{is_table_mode}
use Rattle.h5_builder_spec.specs.inner.NamesFit.{NamesFit}
use Rattle.h5_builder_spec.specs.reset.Reset.{reset_mode}
use Rattle.h5_builder_spec.specs.reset.ResetByRoles.{reset}
use Rattle.h5_builder_spec.specs.reset.Roles.{role_of_local, roles}
use Rattle.h5_builder_spec.specs.reset.SituationChanges.{with_saved}
use Rattle.h5_builder_spec.specs.formatting.Formatting.{insert_marker}
use Rattle.h5_builder_spec.specs.formatting.FormattingNames.{html_name}
use Rattle.h5_builder_spec.specs.modes.InBody.{in_body}
use Rattle.h5_builder_spec.specs.modes.InTable.{in_table, in_table_else, in_table_end, in_table_end_table, in_table_ignored_ends, in_table_start, in_table_start_caption, in_table_start_col, in_table_start_colgroup, in_table_start_form, in_table_start_input, in_table_start_row_part, in_table_start_section, in_table_start_table, in_table_tag, in_table_text_or_null, keeps_text, row_part_names, table_text_names}
use Rattle.h5_builder_spec.specs.modes.Shared.{head_start_names, is_type_hidden}
use Rattle.h5_builder_spec.specs.modes.Tables.{foster, named_in_table_scope, table_section_names}
use Rattle.h5_builder_spec.specs.stack.Scope.{down_names, has_template}
use Rattle.h5_builder_spec.proofs.changes.ListsLaws.{IsSteady, steady_changes}
use Rattle.h5_builder_spec.proofs.changes.NameLaws.{names-cut, names-form, names-until_current}
use Rattle.h5_builder_spec.proofs.changes.SituationLaws.{situation_then}
use Rattle.h5_builder_spec.proofs.fitting.NamesBodyLaws.{is_of_table, names_in_table, no_part_where_ruled, role_known, table_goes}
use Rattle.h5_builder_spec.proofs.fitting.NamesFitLaws.{names_table_text_begun}
use Rattle.h5_builder_spec.proofs.fitting.NamesTableLaws.{names_caption_put, names_colgroup_put, names_section_put, names_table_closed}
use Rattle.h5_builder_spec.proofs.fitting.OpenLaws.{body_left}
use Rattle.h5_builder_spec.proofs.modes.InBody.{NoPartOf, is_end_html}
use Rattle.h5_builder_spec.proofs.modes.InHead.{body_takes, head_content}
use Rattle.h5_builder_spec.proofs.modes.TemplateRowLaws.{closed_by_tag}
use Rattle.h5_builder_spec.proofs.roles.RoleLaws.{role_made}
use Rattle.h5_builder_spec.proofs.rows.ByNameLaws.{holds_by_name, not_ruled, of_named, of_one, ◌&◌}
use Rattle.h5_builder_spec.proofs.rows.EndingLaws.{RowStops}
use Rattle.h5_builder_spec.proofs.rows.KeptLaws.{FitsAs, Kept, as_before}
use Rattle.h5_builder_spec.proofs.rows.RowTexts.{reset_no_text}
use Rattle.h5_builder_laws.proofs.LawfulRow.{IsLawfulFor, IsLawfulTag, lawful_choose, lawful_foster, lawful_if, lawful_if_not, lawful_ignored, lawful_leading, lawful_row}
use Rattle.h5_builder_laws.proofs.modes.InBody.{body_other_lawful, body_tag_lawful, body_tag_stops, is_tag}
use Rattle.h5_builder_laws.proofs.modes.SharedRows.{comment_lawful, end_template_lawful, head_row_lawful}
use Rattle.h5_builder_laws.proofs.modes.TablePartLaws.{down_situation, form_situation, leaf_fits, marker_names, marker_situation, pushed, put, section_local}
use Rattle.h5_builder_laws.proofs.turns.AgainLaws.{kind_of_start, kind_of_turn}
use Rattle.h5_builder_laws.proofs.turns.RankWeightLaws.{closes_templates}
use Rattle.h5_builder_laws.proofs.turns.Ranks.{StartTableTurns, TextTurns}
use Rattle.h5_builder_laws.proofs.turns.RowEdges.{ByEdge, ClosesTable}
use Rattle.h5_builder_laws.proofs.turns.Ranks as edges

-- NAMES

-- an end tag that a table doesn't name is of no part of it
no_part_in_table : (l : List ℕ) → NonePasses in_table_end l → is_of_table (role_of_local l) ≡ false
unfolding in_table_end in_table_ignored_ends
no_part_in_table l n = no_part_where_ruled in_table_end l refl n

-- each name that uses the rules of the head in a table goes so elsewhere, too
table_text_content : (l : List ℕ) → is_one_of table_text_names l ≡ true → is_one_of head_start_names l ≡ true
unfolding table_text_names head_start_names
table_text_content l h = of_one (λ n. is_one_of head_start_names n ≡ true) table_text_names l (refl, (refl, (refl, tt))) h

-- THE OPEN ELEMENTS

module _ (choices : SinkChoices) (w : World) (steady : IsSteady w) (m : InsertionMode) (table : is_table_mode m ≡ true) (same : w.mode ≡ m) where
  in_it : FitsAs m w → NamesFit (situation_of w) InTable (names_of w)
  in_it h = names_in_table (situation_of w) (names_of w) m table h

  caption_put : (tag : TagText) → named Caption tag.name ≡ true → Kept choices w m (in_table_start_caption tag w)
  unfolding role_of_local names_of
  caption_put tag p h =
      let v = pop_until_current is_table_scope w in
      pushed choices w steady (insert_marker v) InCaption (down_names is_table_scope (names_of w)) tag.name tag.attrs tag.had_duplicate_attributes
      (steady_changes choices (PopUntilCurrent is_table_scope ∷ InsertMarker ∷ []) w (tt, (tt, tt)) steady)
      (situation_then w v (insert_marker v) (down_situation is_table_scope w) (marker_situation v)) (marker_names v ∙ names-until_current is_table_scope w)
      (names_caption_put (situation_of w) (names_of w) (html_name tag.name) (role_made tag.name ∙ role_known Caption tag.name p) (in_it h))

  colgroup_put : (tag : TagText) → named Colgroup tag.name ≡ true → Kept choices w m (in_table_start_colgroup tag w)
  unfolding role_of_local names_of
  colgroup_put tag p h =
      put choices w steady is_table_scope InColumnGroup tag.name tag.attrs tag.had_duplicate_attributes
      (names_colgroup_put (situation_of w) (names_of w) (html_name tag.name) (role_made tag.name ∙ role_known Colgroup tag.name p) (in_it h))

  col_put : (tag : TagText) → Kept choices w m (in_table_start_col tag w)
  unfolding role_of_local
  col_put tag h =
      put choices w steady is_table_scope InColumnGroup (codes "colgroup") [] false (names_colgroup_put (situation_of w) (names_of w) (html_name (codes "colgroup")) (role_made (codes "colgroup")) (in_it h))

  section_put : (tag : TagText) → is_one_of table_section_names tag.name ≡ true → Kept choices w m (in_table_start_section tag w)
  unfolding names_of
  section_put tag p h =
      put choices w steady is_table_scope InTableBody tag.name tag.attrs tag.had_duplicate_attributes
      (names_section_put (situation_of w) (names_of w) (html_name tag.name) (role_made tag.name ∙ section_local tag.name p) (in_it h))

  row_part_put : (tag : TagText) → Kept choices w m (in_table_start_row_part tag w)
  unfolding role_of_local
  row_part_put tag h =
      put choices w steady is_table_scope InTableBody (codes "tbody") [] false (names_section_put (situation_of w) (names_of w) (html_name (codes "tbody")) (role_made (codes "tbody")) (in_it h))

  -- the table is closed, and the mode reset
  table_closed : named_in_table_scope (codes "table") w ≡ true → FitsAs m w → FitsAs (reset_mode (pop_until_named (codes "table") w)) (pop_until_named (codes "table") w)
  unfolding pop_until_named reset_mode
  table_closed e h =
      subst (λ l. NamesFit (situation_of w) (reset (situation_of w) (roles l)) l) (sym (names-cut (codes "table") w)) (names_table_closed (situation_of w) (names_of w) m (table_goes m table) e h)

  -- a text, or a null: the mode is left for it
  text_begun : FitsAs m w → FitsAs InTableText (save_mode w)
  unfolding names_of
  text_begun h = subst (λ k. NamesFit (with_saved k (situation_of w)) InTableText (names_of w)) (sym same) (names_table_text_begun (situation_of w) m (names_of w) table h)

-- THE ROWS

-- a text in a table is buffered
text_edge : (m : InsertionMode) → is_table_mode m ≡ true → edges.Again TextTurns m InTableText
text_edge InTable h = edges.text_of_table
text_edge InTableBody h = edges.text_of_section
text_edge InRow h = edges.text_of_row
text_edge _ h = absurd (cc)

table_closes : (m : InsertionMode) → is_table_mode m ≡ true → closes_templates m ≡ true
table_closes InTable h = refl
table_closes InTableBody h = refl
table_closes InRow h = refl
table_closes _ h = absurd (cc)

module _ (m : InsertionMode) (table : is_table_mode m ≡ true) (w : World) where
  -- by the rules of the body, with foster parenting on
  fostered_lawful : (k : TagKind) (tag : TagText) → tag.kind ≡ k → NoPartOf k tag.name → is_end_html k tag.name ≡ false → IsLawfulTag k tag m w (foster in_body (TagTurn tag) w)
  fostered_lawful k tag e part apart =
      lawful_foster w in_body (TagTurn tag) (body_tag_stops m (table_goes m table) (set_foster true w) k tag e apart) (body_tag_lawful m (table_goes m table) (set_foster true w) k tag e part apart)

  start_table_lawful : (tag : TagText) → named Table tag.name ≡ true → IsLawfulTag StartTag tag m w (in_table_start_table tag w)
  unfolding in_table_start_table kind_of_start
  start_table_lawful tag h = lawful_if (named_in_table_scope (codes "table") w) _ (λ e. lawful_leading _ (tt, tt) (λ choices s same. table_closed choices w s m table same e) (tt, (tt, reset_no_text)) tt
      (ClosesTable table (of_named (λ n. kind_of_start n ≡ StartTableTurns) Table tag.name refl h) e refl refl))

  start_input_lawful : (tag : TagText) → tag.kind ≡ StartTag → IsLawfulTag StartTag tag m w (in_table_start_input tag w)
  unfolding in_table_start_input
  start_input_lawful tag e = lawful_choose (is_type_hidden tag.attrs) _ (foster in_body (TagTurn tag) w) (λ h. lawful_row _ (tt, tt) (λ choices s. leaf_fits choices w s m tag) (tt, tt) tt tt) (λ h. fostered_lawful StartTag tag e tt refl)

  start_form_lawful : (tag : TagText) → IsLawfulTag StartTag tag m w (in_table_start_form tag w)
  unfolding in_table_start_form
  start_form_lawful tag = lawful_if_not (has_template (names_of w) || is_some w.form) _ (λ e. lawful_row _ (tt, tt)
      (λ choices s. as_before m w (insert_and_pop_form choices tag.attrs tag.had_duplicate_attributes w) s.sound (form_situation choices tag.attrs tag.had_duplicate_attributes w s.sound) (names-form choices tag.attrs tag.had_duplicate_attributes w s.sound)) (tt, tt) tt tt)

  end_table_lawful : (tag : TagText) → IsLawfulTag EndTag tag m w (in_table_end_table tag w)
  unfolding in_table_end_table names_of
  end_table_lawful tag = lawful_if (named_in_table_scope (codes "table") w) _ (λ e. lawful_leading _ (tt, (tt, tt)) (λ choices s same. table_closed choices w s m table same e) (tt, tt) tt (ByEdge tt))

  text_lawful : (t : TurnText) → edges.Again (kind_of_turn t) m InTableText → RowStops (in_body t (set_foster true w)) → IsLawfulFor t m (set_foster true w) (in_body t (set_foster true w)) → IsLawfulFor t m w (in_table_text_or_null t w)
  unfolding in_table_text_or_null
  text_lawful t edge stops body = lawful_choose (keeps_text w) _ (foster in_body t w) (λ e. lawful_leading _ (tt, tt) (λ choices s same. text_begun choices w s m table same) (tt, (refl, tt)) tt (ByEdge edge))
      (λ e. lawful_foster w in_body t stops body)

  -- a tag, where these lead to a column group and to a row group
  table_start_lawful : (tag : TagText) → tag.kind ≡ StartTag → (named Col tag.name ≡ true → edges.Again (kind_of_start tag.name) m InColumnGroup) → (is_one_of row_part_names tag.name ≡ true → edges.Again (kind_of_start tag.name) m InTableBody)
      → IsLawfulTag StartTag tag m w (by_name in_table_start (of_tag in_table_else) tag w)
  unfolding in_table_start
  table_start_lawful tag e col part = holds_by_name (IsLawfulTag StartTag tag m w) in_table_start (of_tag in_table_else) tag w (
      (λ p. lawful_leading (in_table_start_caption tag w) (tt, (tt, (tt, (tt, tt)))) (λ choices s same. caption_put choices w s m table same tag p) (tt, (refl, tt)) tt (ByEdge tt))
      & (λ p. lawful_leading (in_table_start_colgroup tag w) (tt, (tt, (tt, tt))) (λ choices s same. colgroup_put choices w s m table same tag p) (tt, (refl, tt)) tt (ByEdge tt))
      & (λ p. lawful_leading (in_table_start_col tag w) (tt, (tt, tt)) (λ choices s same. col_put choices w s m table same tag) (tt, (refl, tt)) tt (ByEdge (col p)))
      & (λ p. lawful_leading (in_table_start_section tag w) (tt, (tt, (tt, tt))) (λ choices s same. section_put choices w s m table same tag p) (tt, (refl, tt)) tt (ByEdge tt))
      & (λ p. lawful_leading (in_table_start_row_part tag w) (tt, (tt, tt)) (λ choices s same. row_part_put choices w s m table same tag) (tt, (refl, tt)) tt (ByEdge (part p)))
      & (λ p. start_table_lawful tag p)
      & (λ p. head_row_lawful m w _ (head_content m (body_left m (table_goes m table)) tag w (table_text_content tag.name p) (λ q. body_takes m (table_goes m table))))
      & (λ p. start_input_lawful tag e)
      & (λ p. start_form_lawful tag)
      & tt
      )
      (λ n. fostered_lawful StartTag tag e tt refl)

  table_end_lawful : (tag : TagText) → tag.kind ≡ EndTag → IsLawfulTag EndTag tag m w (by_name in_table_end (of_tag in_table_else) tag w)
  unfolding in_table_end in_table_ignored_ends
  table_end_lawful tag e = holds_by_name (IsLawfulTag EndTag tag m w) in_table_end (of_tag in_table_else) tag w
      (
      (λ p. end_table_lawful tag)
      & (λ p. lawful_ignored)
      & (λ p. end_template_lawful m w tag (λ choices s. closed_by_tag choices w s.sound m (table_goes m table)))
      & tt
      )
      (λ n. fostered_lawful EndTag tag e (no_part_in_table tag.name n) (not_ruled in_table_end Html tag.name refl n))

  pub table_tag_lawful : (k : TagKind) (tag : TagText) → tag.kind ≡ k → (k ≡ StartTag → (named Col tag.name ≡ true → edges.Again (kind_of_start tag.name) m InColumnGroup) × (is_one_of row_part_names tag.name ≡ true → edges.Again (kind_of_start tag.name) m InTableBody))
      → IsLawfulTag k tag m w (in_table_tag tag w)
  unfolding in_table_tag
  table_tag_lawful StartTag tag e f =
      subst (λ k. IsLawfulTag StartTag tag m w (by_kind k (by_name in_table_start (of_tag in_table_else) tag w) (by_name in_table_end (of_tag in_table_else) tag w))) (sym e) (table_start_lawful tag e (f refl).0 (f refl).1)
  table_tag_lawful EndTag tag e f =
      subst (λ k. IsLawfulTag EndTag tag m w (by_kind k (by_name in_table_start (of_tag in_table_else) tag w) (by_name in_table_end (of_tag in_table_else) tag w))) (sym e) (table_end_lawful tag e)

  -- and a token that isn't a tag
  pub table_other_lawful : (t : TurnText) → is_tag t ≡ false → IsLawfulFor t m w (in_table t w)
  table_other_lawful (TagTurn tag) h = absurd (cc)
  table_other_lawful (CommentTurn x) h = comment_lawful m w x
  table_other_lawful (TextTurn status x) h = text_lawful (TextTurn status x) (text_edge m table) tt (body_other_lawful m (table_goes m table) (set_foster true w) (table_closes m table) (TextTurn status x) refl)
  table_other_lawful NullTurn h = text_lawful NullTurn (text_edge m table) tt (body_other_lawful m (table_goes m table) (set_foster true w) (table_closes m table) NullTurn refl)
  table_other_lawful EofTurn h = body_other_lawful m (table_goes m table) w (table_closes m table) EofTurn refl

table_col : (name : List ℕ) → named Col name ≡ true → edges.Again (kind_of_start name) InTable InColumnGroup
unfolding kind_of_start cell_names
table_col name h = of_named (λ n. edges.Again (kind_of_start n) InTable InColumnGroup) Col name edges.col_of_table h

table_part : (name : List ℕ) → is_one_of row_part_names name ≡ true → edges.Again (kind_of_start name) InTable InTableBody
unfolding kind_of_start cell_names row_part_names
table_part name h = of_one (λ n. edges.Again (kind_of_start n) InTable InTableBody) row_part_names name (edges.cell_of_table, (edges.cell_of_table, (edges.row_of_table, tt))) h

pub lawful_in_table : (t : TurnText) (w : World) → IsLawfulFor t InTable w (in_table t w)
lawful_in_table (TagTurn tag) w = table_tag_lawful InTable refl w tag.kind tag refl (λ f. ((λ p. table_col tag.name p), (λ p. table_part tag.name p)))
lawful_in_table t w = table_other_lawful InTable refl w t refl
