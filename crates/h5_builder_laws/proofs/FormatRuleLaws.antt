-- The rules that the tags of formatting elements follow in the body, and what their names are.
use Rattle.std.proofs.Common.{◌≡◌, ℕ, true, false, List, codes, refl}
use Rattle.h5_names.specs.AttributeText.{AttributeText, is_same_text}
use Rattle.h5_tables.specs.TagSets.{block_end_names, block_start_names, button_scope_names, cell_names, formatting_names, heading_names, html_namespace, is_button_scope, is_default_scope, is_foreign_special, is_heading, is_html_named, is_one_of, is_special, mathml_namespace, scope_names, special_names, svg_namespace, void_names}
use Rattle.h5_builder_spec.specs.reset.Roles.{role_of, role_of_local}
use Rattle.h5_builder_spec.specs.stack.Closing.{passed_names}
use Rattle.h5_tables.specs.TurnText.{TagTurn}
use Rattle.h5_tables.specs.declared.modes.InsertionMode.TheVariants.{InBody}
use Rattle.h5_builder_spec.specs.formatting.FormattingNames.{html_name}
use Rattle.h5_builder_spec.specs.modes.InBody.{description_names, in_body_end, in_body_end_blocks, in_body_end_formatting, in_body_end_inline, in_body_preformatted, in_body_start, in_body_start_a, in_body_start_blocks, in_body_start_embedded, in_body_start_formatting, in_body_start_inline, in_body_tag, list_item_names}
use Rattle.h5_builder_spec.specs.modes.InCaption.{in_caption_ignored_ends}
use Rattle.h5_builder_spec.specs.modes.InCell.{in_cell_closing_ends, in_cell_ignored_ends}
use Rattle.h5_builder_spec.specs.modes.Modes.{rule}
use Rattle.h5_builder_spec.specs.modes.Shared.{head_start_names, table_structure_names}
use Rattle.h5_builder_spec.specs.World.{World}
use Rattle.h5_builder_laws.specs.Plain.{inline_names}
use Rattle.h5_builder_laws.proofs.BodyRuleLaws.{IsHolder, IsSeen, of_each}
use Rattle.h5_builder_laws.proofs.ModeLaws.{IsOutside}
use Rattle.h5_builder_laws.proofs.RuleLaws.{end, start}
use Rattle.h5_builder_spec.proofs.rows.ByNameLaws.{HoldsOfAll}

-- a formatting element
pub record IsFormatName (name : List ℕ) : Type 0 where
  pub holds : IsHolder name
  pub ends : (w : World) → rule InBody (TagTurn (end name)) w ≡ in_body_end_formatting (end name) w
  pub itself : is_html_named name (html_name name) ≡ true
  pub same : is_same_text name name ≡ true
  pub outside : IsOutside name
  pub seen : IsSeen false name

-- an `a`
pub a_rule : (a : List AttributeText) (w : World) → rule InBody (TagTurn (start (codes "a") a)) w ≡ in_body_start_a (start (codes "a") a) w
unfolding in_body_tag in_body_start in_body_start_blocks in_body_start_inline in_body_start_embedded head_start_names block_start_names heading_names in_body_preformatted list_item_names description_names
a_rule a w = refl

pub a_formats : IsFormatName (codes "a")
unfolding void_names in_body_tag in_body_end in_body_end_blocks in_body_end_inline block_end_names formatting_names table_structure_names cell_names in_cell_closing_ends in_cell_ignored_ends in_caption_ignored_ends html_namespace mathml_namespace svg_namespace is_html_named is_button_scope is_default_scope is_foreign_special scope_names button_scope_names is_heading heading_names role_of role_of_local is_special special_names passed_names list_item_names description_names
a_formats = record {
  holds = record { has_end = refl; no_template = refl; no_title = refl; no_pre = refl };
  ends = λ w. refl;
  itself = refl;
  same = refl;
  outside = record { no_structure = refl; no_cell = refl; closes_none = refl; not_ignored = refl; no_caption = refl; no_end_of_table = refl; kept_in_caption = refl };
  seen = record { no_heading = refl; no_p = refl; no_scope = refl; no_select = refl; role = refl; no_item = refl; no_description = refl; search = refl };
}

-- one that may be nested in each other, and in itself
pub record IsInlineName (name : List ℕ) : Type 0 where
  pub formats : IsFormatName name
  pub starts : (a : List AttributeText) (w : World) → rule InBody (TagTurn (start name a)) w ≡ in_body_start_formatting (start name a) w
  pub no_link : is_same_text name (codes "a") ≡ false

inlines : HoldsOfAll IsInlineName inline_names
unfolding inline_names void_names in_body_tag in_body_start in_body_start_blocks in_body_start_inline in_body_start_embedded head_start_names in_body_end in_body_end_blocks in_body_end_inline block_start_names block_end_names html_namespace mathml_namespace svg_namespace is_html_named is_button_scope is_default_scope is_foreign_special scope_names button_scope_names is_heading heading_names role_of role_of_local is_special special_names passed_names list_item_names description_names formatting_names in_body_preformatted table_structure_names cell_names in_cell_closing_ends in_cell_ignored_ends in_caption_ignored_ends
inlines = (record { formats = record { holds = record { has_end = refl; no_template = refl; no_title = refl; no_pre = refl }; ends = λ w. refl; itself = refl; same = refl; outside = record { no_structure = refl; no_cell = refl; closes_none = refl; not_ignored = refl; no_caption = refl; no_end_of_table = refl; kept_in_caption = refl }; seen = record { no_heading = refl; no_p = refl; no_scope = refl; no_select = refl; role = refl; no_item = refl; no_description = refl; search = refl } }; starts = λ a w. refl; no_link = refl }, (record { formats = record { holds = record { has_end = refl; no_template = refl; no_title = refl; no_pre = refl }; ends = λ w. refl; itself = refl; same = refl; outside = record { no_structure = refl; no_cell = refl; closes_none = refl; not_ignored = refl; no_caption = refl; no_end_of_table = refl; kept_in_caption = refl }; seen = record { no_heading = refl; no_p = refl; no_scope = refl; no_select = refl; role = refl; no_item = refl; no_description = refl; search = refl } }; starts = λ a w. refl; no_link = refl }, (record { formats = record { holds = record { has_end = refl; no_template = refl; no_title = refl; no_pre = refl }; ends = λ w. refl; itself = refl; same = refl; outside = record { no_structure = refl; no_cell = refl; closes_none = refl; not_ignored = refl; no_caption = refl; no_end_of_table = refl; kept_in_caption = refl }; seen = record { no_heading = refl; no_p = refl; no_scope = refl; no_select = refl; role = refl; no_item = refl; no_description = refl; search = refl } }; starts = λ a w. refl; no_link = refl }, (record { formats = record { holds = record { has_end = refl; no_template = refl; no_title = refl; no_pre = refl }; ends = λ w. refl; itself = refl; same = refl; outside = record { no_structure = refl; no_cell = refl; closes_none = refl; not_ignored = refl; no_caption = refl; no_end_of_table = refl; kept_in_caption = refl }; seen = record { no_heading = refl; no_p = refl; no_scope = refl; no_select = refl; role = refl; no_item = refl; no_description = refl; search = refl } }; starts = λ a w. refl; no_link = refl }, (record { formats = record { holds = record { has_end = refl; no_template = refl; no_title = refl; no_pre = refl }; ends = λ w. refl; itself = refl; same = refl; outside = record { no_structure = refl; no_cell = refl; closes_none = refl; not_ignored = refl; no_caption = refl; no_end_of_table = refl; kept_in_caption = refl }; seen = record { no_heading = refl; no_p = refl; no_scope = refl; no_select = refl; role = refl; no_item = refl; no_description = refl; search = refl } }; starts = λ a w. refl; no_link = refl }, (record { formats = record { holds = record { has_end = refl; no_template = refl; no_title = refl; no_pre = refl }; ends = λ w. refl; itself = refl; same = refl; outside = record { no_structure = refl; no_cell = refl; closes_none = refl; not_ignored = refl; no_caption = refl; no_end_of_table = refl; kept_in_caption = refl }; seen = record { no_heading = refl; no_p = refl; no_scope = refl; no_select = refl; role = refl; no_item = refl; no_description = refl; search = refl } }; starts = λ a w. refl; no_link = refl }, (record { formats = record { holds = record { has_end = refl; no_template = refl; no_title = refl; no_pre = refl }; ends = λ w. refl; itself = refl; same = refl; outside = record { no_structure = refl; no_cell = refl; closes_none = refl; not_ignored = refl; no_caption = refl; no_end_of_table = refl; kept_in_caption = refl }; seen = record { no_heading = refl; no_p = refl; no_scope = refl; no_select = refl; role = refl; no_item = refl; no_description = refl; search = refl } }; starts = λ a w. refl; no_link = refl }, (record { formats = record { holds = record { has_end = refl; no_template = refl; no_title = refl; no_pre = refl }; ends = λ w. refl; itself = refl; same = refl; outside = record { no_structure = refl; no_cell = refl; closes_none = refl; not_ignored = refl; no_caption = refl; no_end_of_table = refl; kept_in_caption = refl }; seen = record { no_heading = refl; no_p = refl; no_scope = refl; no_select = refl; role = refl; no_item = refl; no_description = refl; search = refl } }; starts = λ a w. refl; no_link = refl }, (record { formats = record { holds = record { has_end = refl; no_template = refl; no_title = refl; no_pre = refl }; ends = λ w. refl; itself = refl; same = refl; outside = record { no_structure = refl; no_cell = refl; closes_none = refl; not_ignored = refl; no_caption = refl; no_end_of_table = refl; kept_in_caption = refl }; seen = record { no_heading = refl; no_p = refl; no_scope = refl; no_select = refl; role = refl; no_item = refl; no_description = refl; search = refl } }; starts = λ a w. refl; no_link = refl }, (record { formats = record { holds = record { has_end = refl; no_template = refl; no_title = refl; no_pre = refl }; ends = λ w. refl; itself = refl; same = refl; outside = record { no_structure = refl; no_cell = refl; closes_none = refl; not_ignored = refl; no_caption = refl; no_end_of_table = refl; kept_in_caption = refl }; seen = record { no_heading = refl; no_p = refl; no_scope = refl; no_select = refl; role = refl; no_item = refl; no_description = refl; search = refl } }; starts = λ a w. refl; no_link = refl }, (record { formats = record { holds = record { has_end = refl; no_template = refl; no_title = refl; no_pre = refl }; ends = λ w. refl; itself = refl; same = refl; outside = record { no_structure = refl; no_cell = refl; closes_none = refl; not_ignored = refl; no_caption = refl; no_end_of_table = refl; kept_in_caption = refl }; seen = record { no_heading = refl; no_p = refl; no_scope = refl; no_select = refl; role = refl; no_item = refl; no_description = refl; search = refl } }; starts = λ a w. refl; no_link = refl }, (record { formats = record { holds = record { has_end = refl; no_template = refl; no_title = refl; no_pre = refl }; ends = λ w. refl; itself = refl; same = refl; outside = record { no_structure = refl; no_cell = refl; closes_none = refl; not_ignored = refl; no_caption = refl; no_end_of_table = refl; kept_in_caption = refl }; seen = record { no_heading = refl; no_p = refl; no_scope = refl; no_select = refl; role = refl; no_item = refl; no_description = refl; search = refl } }; starts = λ a w. refl; no_link = refl }, tt))))))))))))

-- so may each of these
pub is_inline_name : (name : List ℕ) → is_one_of inline_names name ≡ true → IsInlineName name
is_inline_name name h = of_each IsInlineName inline_names inlines name h
