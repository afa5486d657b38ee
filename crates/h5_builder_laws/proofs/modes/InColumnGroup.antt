-- HTML standard, section 13.2.6.4.12, the "in column group" insertion mode: each of its rows is lawful.
use Rattle.std.proofs.Common.{Bool, List, [], ap, codes, false, if◌then◌else◌, refl, subst, sym, true, ℕ, ◌∙◌, ◌∷◌, ◌≡◌, ◌≢◌}
use Rattle.h5_names.specs.declared.known_name.KnownName.TheVariants.{Col, Html, Table, Template, Tr}
use Rattle.h5_names.specs.declared.qualified.QualName.{QualName}
use Rattle.h5_token.specs.TokenText.{TagText}
use Rattle.h5_token.specs.declared.tag.TagKind.TheVariants.{EndTag, StartTag}
use Rattle.h5_token.specs.declared.tag.TagKind.{TagKind}
use Rattle.h5_interface.specs.SinkChoices.{SinkChoices}
use Rattle.h5_tables.specs.TagSets.{cell_names, is_html_named, is_one_of}
use Rattle.h5_tables.specs.TurnText.{CommentTurn, EofTurn, NullTurn, TagTurn, TextTurn, TurnText}
use Rattle.h5_tables.specs.declared.modes.InsertionMode.TheVariants.{InColumnGroup, InTable}
use Rattle.h5_tables.specs.declared.modes.SplitStatus.TheVariants.{NotSplit, NotWhitespace, Whitespace}
use Rattle.h5_builder_spec.specs.ByName.{by_kind, by_name, named, of_tag}
use Rattle.h5_builder_spec.specs.Changes.{pop}
use Rattle.h5_builder_spec.specs.Rows.{Again, IsDone, Pop, SetMode, row}
use Rattle.h5_builder_spec.specs.Sound.{situation_of}
use Rattle.h5_builder_spec.specs.World.{World, names_of}
use Rattle.h5_builder_spec.specs.inner.NamesFit.{NamesFit}
use Rattle.h5_builder_spec.specs.reset.Roles.{ColgroupRole, role_of_local}
use Rattle.h5_builder_spec.specs.modes.InColumnGroup.{close_the_column_group, in_column_group, in_column_group_else, in_column_group_end, in_column_group_start, in_column_group_start_col, in_column_group_tag}
use Rattle.h5_builder_spec.specs.modes.Shared.{current_is, head_start_names}
use Rattle.h5_builder_spec.specs.stack.Scope.{first_passes, later_names}
use Rattle.h5_builder_spec.proofs.changes.ListsLaws.{IsSteady}
use Rattle.h5_builder_spec.proofs.changes.PopLaws.{names-pop}
use Rattle.h5_builder_spec.proofs.changes.SituationLaws.{situation_pop}
use Rattle.h5_builder_spec.proofs.fitting.NamesTableLaws.{names_colgroup_popped}
use Rattle.h5_builder_spec.proofs.modes.InHead.{head_content}
use Rattle.h5_builder_spec.proofs.modes.TemplateRowLaws.{closed_by_tag}
use Rattle.h5_builder_spec.proofs.roles.RoleLaws.{role_named}
use Rattle.h5_builder_spec.proofs.rows.ByNameLaws.{◌&◌, holds_by_name, of_named}
use Rattle.h5_builder_spec.proofs.rows.KeptLaws.{FitsAs, fits_at}
use Rattle.h5_builder_laws.proofs.LawfulRow.{IsLawfulFor, IsLawfulRow, IsLawfulTag, lawful_if, lawful_ignored, lawful_leading, lawful_row}
use Rattle.h5_builder_laws.proofs.modes.InBody.{body_other_lawful}
use Rattle.h5_builder_laws.proofs.modes.SharedRows.{comment_lawful, end_template_lawful, head_row_lawful, start_html_lawful, text_row_lawful}
use Rattle.h5_builder_laws.proofs.modes.TablePartLaws.{leaf_fits}
use Rattle.h5_builder_laws.proofs.turns.AgainLaws.{kind_of_end, kind_of_start, part_end_names, part_names}
use Rattle.h5_builder_laws.proofs.turns.Ranks.{CellTurns, ColTurns, EndHtmlTurns, EndPartTurns, EofTurns, OtherTurns, PartTurns, RowTurns, StartTableTurns, TextTurns, TurnKind}
use Rattle.h5_builder_laws.proofs.turns.RowEdges.{ByEdge, ClosesColumnGroup, RowLeads}
use Rattle.h5_builder_laws.proofs.turns.Ranks as edges

-- NAMES

-- the kinds of start tags
abbrev is_start : TurnKind → Bool
is_start EofTurns = false
is_start TextTurns = false
is_start EndHtmlTurns = false
is_start EndPartTurns = false
is_start ColTurns = false
is_start _ = true

start_kind : (name : List ℕ) → named Col name ≡ false → is_start (kind_of_start name) ≡ true
unfolding kind_of_start
start_kind name h = at (named Table name) (is_one_of cell_names name) (named Tr name) (named Col name) (is_one_of part_names name) h
  where
    at : (a b c d e : Bool) → d ≡ false → is_start (if a then StartTableTurns else (if b then CellTurns else (if c then RowTurns else (if d then ColTurns else (if e then PartTurns else OtherTurns))))) ≡ true
    at true b c d e h = refl
    at false true c d e h = refl
    at false false true d e h = refl
    at false false false true e h = absurd (cc)
    at false false false false true h = refl
    at false false false false false h = refl

start_kinds : (name : List ℕ) (x : TurnKind) → kind_of_start name ≡ x → named Col name ≡ false → is_start x ≡ false → ⊥
start_kinds name x i h n = absurd (let k = ap is_start (sym i) ∙ start_kind name h in cc)

column_end : (name : List ℕ) → edges.Again (kind_of_end name) InColumnGroup InTable
unfolding kind_of_end
column_end name = at (named Html name) (is_one_of part_end_names name)
  where
    at : (a b : Bool) → edges.Again (if a then EndHtmlTurns else (if b then EndPartTurns else OtherTurns)) InColumnGroup InTable
    at true b = edges.end_html_of_colgroup
    at false true = edges.end_part_of_colgroup
    at false false = edges.other_of_colgroup

template_content : (l : List ℕ) → named Template l ≡ true → is_one_of head_start_names l ≡ true
unfolding head_start_names
template_content l h = of_named (λ n. is_one_of head_start_names n ≡ true) Template l refl h

is_colgroup : role_of_local (codes "colgroup") ≡ ColgroupRole
unfolding role_of_local
is_colgroup = refl

-- THE OPEN ELEMENTS

module _ (choices : SinkChoices) (w : World) (steady : IsSteady w) where
  -- it is the current node, and popped
  colgroup_popped : current_is (codes "colgroup") w ≡ true → FitsAs InColumnGroup w → FitsAs InTable (pop choices w)
  colgroup_popped e h =
      fits_at InTable w (pop choices w) steady.sound (situation_pop choices w) (subst (NamesFit (situation_of w) InTable) (sym (names-pop choices w)) (at (names_of w) e h))
    where
      at : (ns : List QualName) → first_passes (is_html_named (codes "colgroup")) ns ≡ true → NamesFit (situation_of w) InColumnGroup ns → NamesFit (situation_of w) InTable (later_names ns)
      at [] k f = absurd (cc)
      at (n ∷ ns) k f = names_colgroup_popped (situation_of w) ns n (role_named (codes "colgroup") n k ∙ is_colgroup) f

-- THE ROWS

-- the column group is closed, and the token goes by the table
close_lawful : (c : TurnKind) (starts : Bool) (given : Type 0) (w : World) → (current_is (codes "colgroup") w ≡ true → RowLeads c InColumnGroup w (row (Pop ∷ []) (Again InTable))) → IsLawfulRow InColumnGroup c starts given w (close_the_column_group [] (Again InTable) w)
unfolding close_the_column_group
close_lawful c starts given w leads = lawful_if (current_is (codes "colgroup") w) _ (λ e. lawful_leading _ (tt, tt) (λ choices s same. colgroup_popped choices w s e) (tt, (refl, tt)) tt (leads e))

start_leads : (tag : TagText) (w : World) → named Col tag.name ≡ false → current_is (codes "colgroup") w ≡ true → RowLeads (kind_of_start tag.name) InColumnGroup w (row (Pop ∷ []) (Again InTable))
start_leads tag w n e = at (kind_of_start tag.name) refl n
  where
    by : (x : TurnKind) → kind_of_start tag.name ≡ x → edges.Again x InColumnGroup InTable → RowLeads (kind_of_start tag.name) InColumnGroup w (row (Pop ∷ []) (Again InTable))
    by x i a = ByEdge (subst (λ y. edges.Again y InColumnGroup InTable) (sym i) a)

    at : (x : TurnKind) → kind_of_start tag.name ≡ x → named Col tag.name ≡ false → RowLeads (kind_of_start tag.name) InColumnGroup w (row (Pop ∷ []) (Again InTable))
    at StartTableTurns i h = ClosesColumnGroup refl i e refl refl
    at CellTurns i h = by CellTurns i edges.cell_of_colgroup
    at RowTurns i h = by RowTurns i edges.row_of_colgroup
    at PartTurns i h = by PartTurns i edges.part_of_colgroup
    at OtherTurns i h = by OtherTurns i edges.other_of_colgroup
    at x i h = absurd (start_kinds tag.name x i h refl)

end_colgroup_lawful : (tag : TagText) (w : World) → IsLawfulTag EndTag tag InColumnGroup w (close_the_column_group (SetMode InTable ∷ []) IsDone w)
unfolding close_the_column_group names_of
end_colgroup_lawful tag w = lawful_if (current_is (codes "colgroup") w) _ (λ e. lawful_row _ (tt, (tt, tt)) (λ choices s. colgroup_popped choices w s e) (tt, (refl, tt)) tt tt)

tag_lawful : (k : TagKind) (tag : TagText) (w : World) → IsLawfulTag k tag InColumnGroup w (by_kind k (by_name in_column_group_start (of_tag in_column_group_else) tag w) (by_name in_column_group_end (of_tag in_column_group_else) tag w))
unfolding in_column_group_start in_column_group_end
tag_lawful StartTag tag w = holds_by_name (IsLawfulTag StartTag tag InColumnGroup w) in_column_group_start (of_tag in_column_group_else) tag w (
    (λ p. start_html_lawful InColumnGroup w tag)
    & (λ p. lawful_row (in_column_group_start_col tag w) (tt, tt) (λ choices s. leaf_fits choices w s InColumnGroup tag) (tt, tt) tt tt)
    & (λ p. head_row_lawful InColumnGroup w _ (head_content InColumnGroup refl tag w (template_content tag.name p) (λ q. refl)))
    & tt
    )
    (λ n. close_lawful (kind_of_start tag.name) true (Unit {0}) w (start_leads tag w n.1.0))
tag_lawful EndTag tag w = holds_by_name (IsLawfulTag EndTag tag InColumnGroup w) in_column_group_end (of_tag in_column_group_else) tag w
    (
    (λ p. end_colgroup_lawful tag w)
    & (λ p. lawful_ignored)
    & (λ p. end_template_lawful InColumnGroup w tag (λ choices s. closed_by_tag choices w s.sound InColumnGroup refl))
    & tt
    )
    (λ n. close_lawful (kind_of_end tag.name) false (Unit {0}) w (λ e. ByEdge (column_end tag.name)))

text_lawful : (w : World) (given : Type 0) → IsLawfulRow InColumnGroup TextTurns false given w (close_the_column_group [] (Again InTable) w)
text_lawful w given = close_lawful TextTurns false given w (λ e. ByEdge edges.text_of_colgroup)

pub lawful_in_column_group : (t : TurnText) (w : World) → IsLawfulFor t InColumnGroup w (in_column_group t w)
unfolding in_column_group_tag
lawful_in_column_group (TagTurn tag) w = tag_lawful tag.kind tag w
lawful_in_column_group (CommentTurn x) w = comment_lawful InColumnGroup w x
lawful_in_column_group (TextTurn Whitespace x) w = text_row_lawful InColumnGroup w Whitespace x
lawful_in_column_group (TextTurn NotWhitespace x) w = text_lawful w (x ≢ [])
lawful_in_column_group (TextTurn NotSplit x) w = text_lawful w (x ≢ [])
lawful_in_column_group NullTurn w = text_lawful w (Unit {0})
lawful_in_column_group EofTurn w = body_other_lawful InColumnGroup refl w refl EofTurn refl
