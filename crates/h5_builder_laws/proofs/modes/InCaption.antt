-- HTML standard, section 13.2.6.4.11, the "in caption" insertion mode: each of its rows is lawful.
use Rattle.std.proofs.Common.{List, [], ap, codes, false, refl, subst, sym, true, ℕ, ◌∙◌, ◌∷◌, ◌≡◌}
use Rattle.h5_names.specs.declared.known_name.KnownName.TheVariants.{Html}
use Rattle.h5_names.specs.declared.qualified.QualName.{QualName}
use Rattle.h5_token.specs.TokenText.{TagText}
use Rattle.h5_token.specs.declared.tag.TagKind.TheVariants.{EndTag, StartTag}
use Rattle.h5_token.specs.declared.tag.TagKind.{TagKind}
use Rattle.h5_interface.specs.SinkChoices.{SinkChoices}
use Rattle.h5_tables.specs.TagSets.{cell_names, implied_names, is_html_named, is_implied, is_one_of, is_table_scope}
use Rattle.h5_tables.specs.TurnText.{TagTurn, TurnText}
use Rattle.h5_tables.specs.declared.modes.InsertionMode.TheVariants.{InCaption, InTable}
use Rattle.h5_builder_spec.specs.ByName.{NonePasses, by_kind, by_name, of_tag}
use Rattle.h5_builder_spec.specs.Changes.{pop_until_named}
use Rattle.h5_builder_spec.specs.Rows.{Again, IsDone, Row, SetMode}
use Rattle.h5_builder_spec.specs.Sound.{situation_of}
use Rattle.h5_builder_spec.specs.World.{World, names_of}
use Rattle.h5_builder_spec.specs.inner.NamesFit.{NamesFit}
use Rattle.h5_builder_spec.specs.reset.Roles.{role_of_local}
use Rattle.h5_builder_spec.specs.formatting.Formatting.{clear_active_formatting_to_marker}
use Rattle.h5_builder_spec.specs.modes.InBody.{in_body}
use Rattle.h5_builder_spec.specs.modes.InCaption.{close_the_caption, in_caption, in_caption_end, in_caption_ignored_ends, in_caption_start, in_caption_tag}
use Rattle.h5_builder_spec.specs.modes.Shared.{table_structure_names}
use Rattle.h5_builder_spec.specs.modes.Tables.{named_in_table_scope}
use Rattle.h5_builder_spec.specs.stack.Closing.{generate_implied_end_tags}
use Rattle.h5_builder_spec.specs.stack.Scope.{in_scope}
use Rattle.h5_builder_spec.proofs.changes.ClosingLaws.{named_not_implied, names-all_implied, still_in_scope}
use Rattle.h5_builder_spec.proofs.changes.ListsLaws.{IsSteady}
use Rattle.h5_builder_spec.proofs.changes.NameLaws.{names-cut}
use Rattle.h5_builder_spec.proofs.fitting.NamesBodyLaws.{is_of_table, no_part_where_ruled}
use Rattle.h5_builder_spec.proofs.fitting.NamesTableLaws.{names_caption_closed}
use Rattle.h5_builder_spec.proofs.modes.ReadyInLaws.{in_implied, ready_in}
use Rattle.h5_builder_spec.proofs.rows.ByNameLaws.{holds_by_name, not_ruled, of_one, ◌&◌}
use Rattle.h5_builder_spec.proofs.rows.KeptLaws.{FitsAs}
use Rattle.h5_builder_laws.proofs.LawfulRow.{IsLawfulFor, IsLawfulTag, lawful_if, lawful_ignored, lawful_row}
use Rattle.h5_builder_laws.proofs.modes.InBody.{body_other_lawful, body_tag_lawful}
use Rattle.h5_builder_laws.proofs.modes.TablePartLaws.{fits_cleared, fits_cut_at}
use Rattle.h5_builder_laws.proofs.turns.AgainLaws.{kind_of_start, kind_of_tag, part_names}
use Rattle.h5_builder_laws.proofs.turns.RowEdges.{end_table}
use Rattle.h5_builder_laws.proofs.turns.Ranks as edges

-- NAMES

-- no caption has an implied end tag
caption_not_implied : (n : QualName) → is_implied n ≡ true → is_html_named (codes "caption") n ≡ false
unfolding implied_names
caption_not_implied n h = named_not_implied (codes "caption" ∷ []) (codes "caption") n refl refl h

-- an end tag that a caption doesn't name is of no part of a table
no_part_in_caption : (l : List ℕ) → NonePasses in_caption_end l → is_of_table (role_of_local l) ≡ false
unfolding in_caption_end in_caption_ignored_ends
no_part_in_caption l n = no_part_where_ruled in_caption_end l refl n

caption_structure : (name : List ℕ) → is_one_of table_structure_names name ≡ true → edges.Again (kind_of_start name) InCaption InTable
unfolding kind_of_start part_names table_structure_names cell_names
caption_structure name h =
    of_one (λ n. edges.Again (kind_of_start n) InCaption InTable) table_structure_names name
    (edges.part_of_caption, (edges.col_of_caption, (edges.part_of_caption, (edges.part_of_caption, (edges.cell_of_caption, (edges.part_of_caption, (edges.cell_of_caption, (edges.part_of_caption, (edges.row_of_caption, tt))))))))) h

-- THE OPEN ELEMENTS

-- implied end tags, and up to and including the caption
caption_closed : (choices : SinkChoices) (w : World) → IsSteady w → named_in_table_scope (codes "caption") w ≡ true → FitsAs InCaption w → FitsAs InTable (clear_active_formatting_to_marker (pop_until_named (codes "caption") (generate_implied_end_tags choices w)))
caption_closed choices w steady e h =
    let ended = generate_implied_end_tags choices w in
    let r = in_implied choices InCaption refl w (ready_in InCaption refl w steady h) in
    let found = ap (in_scope (is_html_named (codes "caption")) is_table_scope) (names-all_implied choices w) ∙ still_in_scope (is_html_named (codes "caption")) is_table_scope is_implied caption_not_implied (names_of w) e in
    fits_cleared InTable (pop_until_named (codes "caption") ended)
    (fits_cut_at InTable (codes "caption") ended
    (subst (NamesFit (situation_of ended) InTable) (sym (names-cut (codes "caption") ended)) (names_caption_closed (situation_of ended) (names_of ended) found r.fit)))

-- THE ROWS

module _ (k : TagKind) (tag : TagText) (w : World) where
  abbrev IsLawfulInCaption : Row → Type 0
  IsLawfulInCaption r = IsLawfulTag k tag InCaption w r

  end_caption_lawful : IsLawfulInCaption (close_the_caption (SetMode InTable ∷ []) IsDone w)
  unfolding close_the_caption names_of
  end_caption_lawful = lawful_if (named_in_table_scope (codes "caption") w) _ (λ e. lawful_row _ (tt, (tt, (tt, (tt, tt)))) (λ choices s. caption_closed choices w s e) (tt, (refl, tt)) tt tt)

  close_lawful : edges.Again (kind_of_tag k tag.name) InCaption InTable → IsLawfulInCaption (close_the_caption [] (Again InTable) w)
  unfolding close_the_caption names_of
  close_lawful leads = lawful_if (named_in_table_scope (codes "caption") w) _ (λ e. lawful_row _ (tt, (tt, (tt, tt))) (λ choices s. caption_closed choices w s e) (tt, (refl, tt)) tt leads)

tag_lawful : (k : TagKind) (tag : TagText) (w : World) → tag.kind ≡ k → IsLawfulTag k tag InCaption w (by_kind k (by_name in_caption_start (of_tag in_body) tag w) (by_name in_caption_end (of_tag in_body) tag w))
unfolding in_caption_start in_caption_end in_caption_ignored_ends
tag_lawful StartTag tag w e = holds_by_name (IsLawfulTag StartTag tag InCaption w) in_caption_start (of_tag in_body) tag w ((λ p. close_lawful StartTag tag w (caption_structure tag.name p)) & tt)
    (λ n. body_tag_lawful InCaption refl w StartTag tag e tt refl)
tag_lawful EndTag tag w e = holds_by_name (IsLawfulTag EndTag tag InCaption w) in_caption_end (of_tag in_body) tag w
    (
    (λ p. end_caption_lawful EndTag tag w)
    & (λ p. close_lawful EndTag tag w (end_table InCaption InTable tag.name edges.end_part_of_caption p))
    & (λ p. lawful_ignored)
    & tt
    )
    (λ n. body_tag_lawful InCaption refl w EndTag tag e (no_part_in_caption tag.name n) (not_ruled in_caption_end Html tag.name refl n))

pub lawful_in_caption : (t : TurnText) (w : World) → IsLawfulFor t InCaption w (in_caption t w)
unfolding in_caption_tag
lawful_in_caption (TagTurn tag) w = tag_lawful tag.kind tag w refl
lawful_in_caption t w = body_other_lawful InCaption refl w refl t refl
