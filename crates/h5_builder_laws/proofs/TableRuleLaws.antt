-- The rules that the tags of tables follow, each in its mode, and what their names are.
use Rattle.std.proofs.Common.{◌≡◌, ℕ, true, false, List, [], ◌∷◌, codes, refl}
use Rattle.h5_names.specs.AttributeText.{AttributeText}
use Rattle.h5_builder_spec.specs.reset.Roles.{CaptionRole, CellRole, role_of, role_of_local}
use Rattle.h5_tables.specs.TagSets.{button_scope_names, cell_names, formatting_names, block_start_names, heading_names, html_namespace, implied_names, is_button_scope, is_default_scope, is_foreign_special, is_heading, is_html_named, is_implied, is_one_of, is_table_body_context, is_table_row_context, is_table_outer, is_table_scope, is_special, mathml_namespace, scope_names, special_names, svg_namespace, table_body_context_names, table_outer_names, void_names}
use Rattle.h5_builder_spec.specs.stack.Closing.{ends_item_search, is_html_among, passed_names}
use Rattle.h5_builder_laws.specs.Plain.{has_end_tag, part_names}
use Rattle.h5_tables.specs.TurnText.{TagTurn}
use Rattle.h5_tables.specs.declared.modes.InsertionMode.TheVariants.{InBody, InCaption, InCell, InColumnGroup, InRow, InTable, InTableBody}
use Rattle.h5_interface.specs.NewElement.{is_html_template}
use Rattle.h5_builder_spec.specs.modes.InCaption.{close_the_caption, in_caption_end, in_caption_tag}
use Rattle.h5_builder_spec.specs.modes.InColumnGroup.{close_the_column_group, in_column_group_end, in_column_group_start, in_column_group_tag}
use Rattle.h5_builder_spec.specs.formatting.FormattingNames.{html_name}
use Rattle.h5_builder_spec.specs.modes.InBody.{description_names, in_body_marked, in_body_preformatted, in_body_start, in_body_start_blocks, in_body_start_embedded, in_body_start_inline, in_body_start_table, in_body_tag, list_item_names}
use Rattle.h5_builder_spec.specs.modes.InCell.{in_cell_end, in_cell_end_cell, in_cell_tag}
use Rattle.h5_builder_spec.specs.modes.InRow.{close_the_row, in_row_end, in_row_start, in_row_tag}
use Rattle.h5_builder_spec.specs.modes.InTable.{in_table_end, in_table_end_table, in_table_start, in_table_tag}
use Rattle.h5_builder_spec.specs.modes.InTableBody.{in_table_body_end, in_table_body_end_section, in_table_body_start, in_table_body_tag}
use Rattle.h5_builder_spec.specs.modes.Modes.{rule}
use Rattle.h5_builder_spec.specs.Rows.{InsertAndPopElement, InsertElement, InsertMarker, IsAcknowledged, IsDone, PopUntilCurrent, SetMode, row}
use Rattle.h5_builder_spec.specs.modes.Shared.{head_start_names, table_structure_names}
use Rattle.h5_builder_spec.specs.modes.Tables.{table_section_names}
use Rattle.h5_builder_spec.specs.World.{World}
use Rattle.h5_builder_laws.proofs.BodyRuleLaws.{IsHolder, of_each}
use Rattle.h5_builder_laws.proofs.RuleLaws.{end, start}
use Rattle.h5_builder_spec.proofs.rows.ByNameLaws.{HoldsOfAll}

-- a `table` and its end
pub table_rule : (a : List AttributeText) (w : World) → rule InBody (TagTurn (start (codes "table") a)) w ≡ in_body_start_table (start (codes "table") a) w
unfolding in_body_tag in_body_start in_body_start_blocks in_body_start_inline in_body_start_embedded head_start_names block_start_names heading_names formatting_names in_body_preformatted list_item_names description_names in_body_marked
table_rule a w = refl

pub table_end_rule : (w : World) → rule InTable (TagTurn (end (codes "table"))) w ≡ in_table_end_table (end (codes "table")) w
unfolding in_table_tag in_table_end
table_end_rule w = refl

pub table_holds : IsHolder (codes "table")
unfolding void_names
table_holds = record { has_end = refl; no_template = refl; no_title = refl; no_pre = refl }

-- in a cell, too, it follows the body's rule
pub table_is_no_part : is_one_of table_structure_names (codes "table") ≡ false
unfolding table_structure_names
table_is_no_part = refl

-- sections
pub record IsPartName (name : List ℕ) : Type 0 where
  pub holds : IsHolder name
  pub starts : (a : List AttributeText) (w : World) → rule InTable (TagTurn (start name a)) w ≡ row (PopUntilCurrent is_table_scope ∷ InsertElement name a false ∷ SetMode InTableBody ∷ []) IsDone
  pub ends : (w : World) → rule InTableBody (TagTurn (end name)) w ≡ in_table_body_end_section (end name) w
  pub itself : is_html_named name (html_name name) ≡ true
  pub context : is_table_body_context (html_name name) ≡ true
  pub outer : is_table_outer (html_name name) ≡ true

parts : HoldsOfAll IsPartName part_names
unfolding part_names void_names html_namespace is_html_named is_table_body_context table_body_context_names is_table_outer table_outer_names in_table_tag in_table_start table_section_names in_table_body_tag in_table_body_end
parts = (record { holds = record { has_end = refl; no_template = refl; no_title = refl; no_pre = refl }; starts = λ a w. refl; ends = λ w. refl; itself = refl; context = refl; outer = refl }, (record { holds = record { has_end = refl; no_template = refl; no_title = refl; no_pre = refl }; starts = λ a w. refl; ends = λ w. refl; itself = refl; context = refl; outer = refl }, (record { holds = record { has_end = refl; no_template = refl; no_title = refl; no_pre = refl }; starts = λ a w. refl; ends = λ w. refl; itself = refl; context = refl; outer = refl }, tt)))

pub is_part_name : (name : List ℕ) → is_one_of part_names name ≡ true → IsPartName name
is_part_name name h = of_each IsPartName part_names parts name h

-- a `tr` and its end
pub row_rule : (a : List AttributeText) (w : World) → rule InTableBody (TagTurn (start (codes "tr") a)) w ≡ row (PopUntilCurrent is_table_body_context ∷ InsertElement (codes "tr") a false ∷ SetMode InRow ∷ []) IsDone
unfolding in_table_body_tag in_table_body_start
row_rule a w = refl

pub row_end_rule : (w : World) → rule InRow (TagTurn (end (codes "tr"))) w ≡ close_the_row (SetMode InTableBody ∷ []) IsDone w
unfolding in_row_tag in_row_end
row_end_rule w = refl

pub row_holds : IsHolder (codes "tr")
unfolding void_names
row_holds = record { has_end = refl; no_template = refl; no_title = refl; no_pre = refl }

-- a cell
pub record IsCellName (name : List ℕ) : Type 0 where
  pub holds : IsHolder name
  pub starts : (a : List AttributeText) (w : World) → rule InRow (TagTurn (start name a)) w ≡ row (PopUntilCurrent is_table_row_context ∷ InsertElement name a false ∷ SetMode InCell ∷ InsertMarker ∷ []) IsDone
  pub ends : (w : World) → rule InCell (TagTurn (end name)) w ≡ in_cell_end_cell (end name) w
  pub itself : is_html_named name (html_name name) ≡ true
  pub not_implied : is_implied (html_name name) ≡ false
  pub no_p : is_html_named (codes "p") (html_name name) ≡ false
  pub ends_scope : is_button_scope (html_name name) ≡ true
  pub ends_default : is_default_scope (html_name name) ≡ true
  pub no_heading : is_heading (html_name name) ≡ false
  pub no_select : is_html_named (codes "select") (html_name name) ≡ false
  pub role : role_of (html_name name) ≡ CellRole
  pub search : ends_item_search (html_name name) ≡ true
  pub no_item : is_html_among list_item_names (html_name name) ≡ false
  pub no_description : is_html_among description_names (html_name name) ≡ false

cells : HoldsOfAll IsCellName cell_names
unfolding cell_names void_names html_namespace mathml_namespace svg_namespace in_row_tag in_row_start in_cell_tag in_cell_end is_html_named is_implied implied_names is_button_scope is_default_scope is_foreign_special scope_names button_scope_names is_heading heading_names role_of role_of_local is_special special_names passed_names list_item_names description_names
cells = (
  record { holds = record { has_end = refl; no_template = refl; no_title = refl; no_pre = refl }; starts = λ a w. refl; ends = λ w. refl; itself = refl; not_implied = refl; no_p = refl; ends_scope = refl; ends_default = refl; no_heading = refl; no_select = refl; role = refl; search = refl; no_item = refl; no_description = refl },
  (record { holds = record { has_end = refl; no_template = refl; no_title = refl; no_pre = refl }; starts = λ a w. refl; ends = λ w. refl; itself = refl; not_implied = refl; no_p = refl; ends_scope = refl; ends_default = refl; no_heading = refl; no_select = refl; role = refl; search = refl; no_item = refl; no_description = refl }, tt),
)

-- `td` and `th` are cells
pub is_cell_name : (name : List ℕ) → is_one_of cell_names name ≡ true → IsCellName name
is_cell_name name h = of_each IsCellName cell_names cells name h

-- a `caption`
pub record IsCaption : Type 0 where
  pub holds : IsHolder (codes "caption")
  pub starts : (a : List AttributeText) (w : World) → rule InTable (TagTurn (start (codes "caption") a)) w ≡ row (PopUntilCurrent is_table_scope ∷ InsertMarker ∷ InsertElement (codes "caption") a false ∷ SetMode InCaption ∷ []) IsDone
  pub ends : (w : World) → rule InCaption (TagTurn (end (codes "caption"))) w ≡ close_the_caption (SetMode InTable ∷ []) IsDone w
  pub itself : is_html_named (codes "caption") (html_name (codes "caption")) ≡ true
  pub not_implied : is_implied (html_name (codes "caption")) ≡ false
  pub no_p : is_html_named (codes "p") (html_name (codes "caption")) ≡ false
  pub ends_scope : is_button_scope (html_name (codes "caption")) ≡ true
  pub ends_default : is_default_scope (html_name (codes "caption")) ≡ true
  pub no_heading : is_heading (html_name (codes "caption")) ≡ false
  pub no_select : is_html_named (codes "select") (html_name (codes "caption")) ≡ false
  pub role : role_of (html_name (codes "caption")) ≡ CaptionRole
  pub search : ends_item_search (html_name (codes "caption")) ≡ true
  pub no_item : is_html_among list_item_names (html_name (codes "caption")) ≡ false
  pub no_description : is_html_among description_names (html_name (codes "caption")) ≡ false

pub caption : IsCaption
unfolding void_names html_namespace mathml_namespace svg_namespace in_table_tag in_table_start in_caption_tag in_caption_end is_html_named is_implied implied_names is_button_scope is_default_scope is_foreign_special scope_names button_scope_names is_heading heading_names role_of role_of_local is_special special_names passed_names list_item_names description_names
caption = record { holds = record { has_end = refl; no_template = refl; no_title = refl; no_pre = refl }; starts = λ a w. refl; ends = λ w. refl; itself = refl; not_implied = refl; no_p = refl; ends_scope = refl; ends_default = refl; no_heading = refl; no_select = refl; role = refl; search = refl; no_item = refl; no_description = refl }

-- a `colgroup`, and a `col` in it
pub group_holds : IsHolder (codes "colgroup")
unfolding void_names
group_holds = record { has_end = refl; no_template = refl; no_title = refl; no_pre = refl }

pub group_rule : (a : List AttributeText) (w : World) → rule InTable (TagTurn (start (codes "colgroup") a)) w ≡ row (PopUntilCurrent is_table_scope ∷ InsertElement (codes "colgroup") a false ∷ SetMode InColumnGroup ∷ []) IsDone
unfolding in_table_tag in_table_start
group_rule a w = refl

pub group_end_rule : (w : World) → rule InColumnGroup (TagTurn (end (codes "colgroup"))) w ≡ close_the_column_group (SetMode InTable ∷ []) IsDone w
unfolding in_column_group_tag in_column_group_end
group_end_rule w = refl

pub column_rule : (a : List AttributeText) (w : World) → rule InColumnGroup (TagTurn (start (codes "col") a)) w ≡ row (InsertAndPopElement (codes "col") a false ∷ []) IsAcknowledged
unfolding in_column_group_tag in_column_group_start
column_rule a w = refl

pub column_is_void : (has_end_tag (codes "col") ≡ false) × (is_html_template (html_name (codes "col")) ≡ false)
unfolding void_names
column_is_void = (refl, refl)
