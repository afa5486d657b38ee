-- HTML standard, section 13.2.6.4.16, the "in template" insertion mode: each of its rows is lawful.
use Rattle.std.proofs.Common.{Bool, List, false, if◌then◌else◌, refl, true, ℕ, ◌≡◌}
use Rattle.h5_names.specs.declared.known_name.KnownName.TheVariants.{Col, Table, Tr}
use Rattle.h5_token.specs.TokenText.{TagText}
use Rattle.h5_token.specs.declared.tag.TagKind.TheVariants.{EndTag, StartTag}
use Rattle.h5_token.specs.declared.tag.TagKind.{TagKind}
use Rattle.h5_tables.specs.TagSets.{cell_names, is_one_of}
use Rattle.h5_tables.specs.TurnText.{CommentTurn, EofTurn, NullTurn, TagTurn, TextTurn, TurnText}
use Rattle.h5_tables.specs.declared.modes.InsertionMode.TheVariants.{InBody, InColumnGroup, InRow, InTable, InTableBody, InTemplate}
use Rattle.h5_tables.specs.declared.modes.InsertionMode.{InsertionMode}
use Rattle.h5_builder_spec.specs.ByName.{by_kind, by_name, ignored_tag, named}
use Rattle.h5_builder_spec.specs.World.{World}
use Rattle.h5_builder_spec.specs.inner.Fits.{is_template_mode}
use Rattle.h5_builder_spec.specs.modes.InTemplate.{in_template, in_template_as, in_template_end, in_template_part_names, in_template_start, in_template_tag}
use Rattle.h5_builder_spec.proofs.modes.InHead.{head_content}
use Rattle.h5_builder_spec.proofs.modes.TemplateRowLaws.{closed_by_tag, kept_template_mode}
use Rattle.h5_builder_spec.proofs.rows.ByNameLaws.{holds_by_name, of_named, of_one, ◌&◌}
use Rattle.h5_builder_spec.proofs.rows.RowTexts.{is_text}
use Rattle.h5_builder_laws.proofs.LawfulRow.{IsLawfulFor, IsLawfulRow, IsLawfulTag, lawful_ignored, lawful_row}
use Rattle.h5_builder_laws.proofs.modes.InBody.{body_other_lawful}
use Rattle.h5_builder_laws.proofs.modes.SharedRows.{end_template_lawful, eof_template_lawful, head_row_lawful}
use Rattle.h5_builder_laws.proofs.turns.AgainLaws.{kind_of_start, part_names}
use Rattle.h5_builder_laws.proofs.turns.Ranks.{CellTurns, ColTurns, OtherTurns, PartTurns, RowTurns, StartTableTurns, TurnKind}
use Rattle.h5_builder_laws.proofs.turns.Ranks as edges

template_part : (name : List ℕ) → is_one_of in_template_part_names name ≡ true → edges.Again (kind_of_start name) InTemplate InTable
unfolding kind_of_start part_names cell_names in_template_part_names
template_part name h = of_one (λ n. edges.Again (kind_of_start n) InTemplate InTable) in_template_part_names name (edges.part_of_template, (edges.part_of_template, (edges.part_of_template, (edges.part_of_template, (edges.part_of_template, tt))))) h

template_cell : (name : List ℕ) → is_one_of cell_names name ≡ true → edges.Again (kind_of_start name) InTemplate InRow
unfolding kind_of_start cell_names
template_cell name h = of_one (λ n. edges.Again (kind_of_start n) InTemplate InRow) cell_names name (edges.cell_of_template, (edges.cell_of_template, tt)) h

template_col : (name : List ℕ) → named Col name ≡ true → edges.Again (kind_of_start name) InTemplate InColumnGroup
unfolding kind_of_start cell_names
template_col name h = of_named (λ n. edges.Again (kind_of_start n) InTemplate InColumnGroup) Col name edges.col_of_template h

template_tr : (name : List ℕ) → named Tr name ≡ true → edges.Again (kind_of_start name) InTemplate InTableBody
unfolding kind_of_start cell_names
template_tr name h = of_named (λ n. edges.Again (kind_of_start n) InTemplate InTableBody) Tr name edges.row_of_template h

template_other : (name : List ℕ) → is_one_of in_template_part_names name ≡ false → named Col name ≡ false → named Tr name ≡ false → is_one_of cell_names name ≡ false → edges.Again (kind_of_start name) InTemplate InBody
unfolding kind_of_start part_names in_template_part_names
template_other name p c t d = at (named Table name) (is_one_of cell_names name) (named Tr name) (named Col name) (is_one_of in_template_part_names name) d t c p
  where
    at : (a d t c p : Bool) → d ≡ false → t ≡ false → c ≡ false → p ≡ false
        → edges.Again (if a then StartTableTurns else (if d then CellTurns else (if t then RowTurns else (if c then ColTurns else (if p then PartTurns else OtherTurns))))) InTemplate InBody
    at true d t c p f g h i = edges.start_table_of_template
    at false false false false false f g h i = edges.other_of_template
    at false true t c p f g h i = absurd (cc)
    at false false true c p f g h i = absurd (cc)
    at false false false true p f g h i = absurd (cc)
    at false false false false true f g h i = absurd (cc)

-- the template insertion mode gives way to another
as_lawful : {c : TurnKind} {starts : Bool} {given : Type 0} (m : InsertionMode) (tag : TagText) (w : World) → is_template_mode m ≡ true → is_text m ≡ false → edges.Again c InTemplate m → IsLawfulRow InTemplate c starts given w (in_template_as m tag w)
as_lawful m tag w h n leads = lawful_row _ (tt, tt) (λ choices s. kept_template_mode choices w tag m h) (tt, (n, (h, tt))) tt leads

tag_lawful : (k : TagKind) (tag : TagText) (w : World) → IsLawfulTag k tag InTemplate w (by_kind k (by_name in_template_start (in_template_as InBody) tag w) (by_name in_template_end ignored_tag tag w))
unfolding in_template_start in_template_end
tag_lawful StartTag tag w = holds_by_name (IsLawfulTag StartTag tag InTemplate w) in_template_start (in_template_as InBody) tag w (
    (λ p. head_row_lawful InTemplate w _ (head_content InTemplate refl tag w p (λ q. refl)))
    & (λ p. as_lawful InTable tag w refl refl (template_part tag.name p))
    & (λ p. as_lawful InColumnGroup tag w refl refl (template_col tag.name p))
    & (λ p. as_lawful InTableBody tag w refl refl (template_tr tag.name p))
    & (λ p. as_lawful InRow tag w refl refl (template_cell tag.name p))
    & tt
    )
    (λ n. as_lawful InBody tag w refl refl (template_other tag.name n.1.0 n.1.1.0 n.1.1.1.0 n.1.1.1.1.0))
tag_lawful EndTag tag w = holds_by_name (IsLawfulTag EndTag tag InTemplate w) in_template_end ignored_tag tag w ((λ p. end_template_lawful InTemplate w tag (λ choices s. closed_by_tag choices w s.sound InTemplate refl)) & tt) (λ n. lawful_ignored)

pub lawful_in_template : (t : TurnText) (w : World) → IsLawfulFor t InTemplate w (in_template t w)
unfolding in_template_tag
lawful_in_template (TagTurn tag) w = tag_lawful tag.kind tag w
lawful_in_template (CommentTurn x) w = body_other_lawful InTemplate refl w refl (CommentTurn x) refl
lawful_in_template (TextTurn status x) w = body_other_lawful InTemplate refl w refl (TextTurn status x) refl
lawful_in_template NullTurn w = lawful_ignored
lawful_in_template EofTurn w = eof_template_lawful InTemplate w refl refl
