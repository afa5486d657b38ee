-- Elements without a rule of their own, and elements without an end tag, in the body.
use Rattle.std.proofs.Common.{◌≡◌, ℕ, true, false, List, codes, refl}
use Rattle.h5_names.specs.AttributeText.{AttributeText, is_same_text}
use Rattle.h5_token.specs.TokenText.{TagText}
use Rattle.h5_interface.specs.NewElement.{is_html_template}
use Rattle.h5_builder_spec.specs.reset.Roles.{role_of, role_of_local}
use Rattle.h5_builder_spec.specs.stack.Scope.{is_implied_but}
use Rattle.h5_builder_spec.specs.stack.Closing.{passed_names}
use Rattle.h5_tables.specs.TagSets.{block_end_names, block_start_names, button_scope_names, cell_names, formatting_names, heading_names, html_namespace, implied_names, is_button_scope, is_default_scope, is_foreign_special, is_heading, is_html_named, is_implied, is_one_of, is_special, mathml_namespace, scope_names, special_names, svg_namespace, void_names}
use Rattle.h5_tables.specs.TurnText.{TagTurn}
use Rattle.h5_tables.specs.declared.modes.InsertionMode.TheVariants.{InBody}
use Rattle.h5_builder_spec.specs.formatting.FormattingNames.{html_name}
use Rattle.h5_builder_spec.specs.modes.InBody.{description_names, in_body_end, in_body_end_blocks, in_body_end_inline, in_body_end_other, in_body_ignored_starts, in_body_marked, in_body_parts, in_body_preformatted, in_body_ruby_bases, in_body_ruby_texts, in_body_start, in_body_start_blocks, in_body_start_embedded, in_body_start_hr, in_body_start_inline, in_body_start_other, in_body_start_ruby_text, in_body_start_void, in_body_tag, in_body_void, list_item_names, outside_names}
use Rattle.h5_builder_spec.specs.modes.InCaption.{in_caption_ignored_ends}
use Rattle.h5_builder_spec.specs.modes.InCell.{in_cell_closing_ends, in_cell_ignored_ends}
use Rattle.h5_builder_spec.specs.modes.Modes.{rule}
use Rattle.h5_builder_spec.specs.modes.Shared.{head_start_names, table_structure_names}
use Rattle.h5_builder_spec.specs.Rows.{Row}
use Rattle.h5_builder_spec.specs.World.{World}
use Rattle.h5_builder_laws.specs.Plain.{has_end_tag, mark_names, phrase_names, ruby_text_names}
use Rattle.h5_builder_laws.proofs.BodyRuleLaws.{IsHolder, IsSeen, of_each}
use Rattle.h5_builder_laws.proofs.ModeLaws.{IsOutside}
use Rattle.h5_builder_laws.proofs.RuleLaws.{end, start}
use Rattle.h5_builder_spec.proofs.rows.ByNameLaws.{HoldsOfAll}

-- an element whose end tag has no rule of its own, and whose start tag has this one
pub record IsPhraseName (starts_by : TagText → World → Row) (name : List ℕ) : Type 0 where
  pub holds : IsHolder name
  pub starts : (a : List AttributeText) (w : World) → rule InBody (TagTurn (start name a)) w ≡ starts_by (start name a) w
  pub ends : (w : World) → rule InBody (TagTurn (end name)) w ≡ in_body_end_other (end name) w
  pub itself : is_html_named name (html_name name) ≡ true
  pub not_implied : is_implied_but name (html_name name) ≡ false
  pub outside : IsOutside name
  pub seen : IsSeen false name

-- an element without a rule of its own
phrases : HoldsOfAll (IsPhraseName in_body_start_other) phrase_names
unfolding phrase_names void_names in_body_tag in_body_start in_body_start_blocks in_body_start_inline in_body_start_embedded head_start_names in_body_end in_body_end_blocks in_body_end_inline block_start_names block_end_names html_namespace mathml_namespace svg_namespace is_html_named is_button_scope is_default_scope is_foreign_special scope_names button_scope_names is_heading heading_names role_of role_of_local is_special special_names passed_names list_item_names description_names formatting_names in_body_preformatted in_body_marked in_body_void in_body_parts in_body_ruby_bases in_body_ruby_texts in_body_ignored_starts outside_names is_implied implied_names table_structure_names cell_names in_cell_closing_ends in_cell_ignored_ends in_caption_ignored_ends
phrases = (record { holds = record { has_end = refl; no_template = refl; no_title = refl; no_pre = refl }; starts = λ a w. refl; ends = λ w. refl; itself = refl; not_implied = refl; outside = record { no_structure = refl; no_cell = refl; closes_none = refl; not_ignored = refl; no_caption = refl; no_end_of_table = refl; kept_in_caption = refl }; seen = record { no_heading = refl; no_p = refl; no_scope = refl; no_select = refl; role = refl; no_item = refl; no_description = refl; search = refl } }, (record { holds = record { has_end = refl; no_template = refl; no_title = refl; no_pre = refl }; starts = λ a w. refl; ends = λ w. refl; itself = refl; not_implied = refl; outside = record { no_structure = refl; no_cell = refl; closes_none = refl; not_ignored = refl; no_caption = refl; no_end_of_table = refl; kept_in_caption = refl }; seen = record { no_heading = refl; no_p = refl; no_scope = refl; no_select = refl; role = refl; no_item = refl; no_description = refl; search = refl } }, (record { holds = record { has_end = refl; no_template = refl; no_title = refl; no_pre = refl }; starts = λ a w. refl; ends = λ w. refl; itself = refl; not_implied = refl; outside = record { no_structure = refl; no_cell = refl; closes_none = refl; not_ignored = refl; no_caption = refl; no_end_of_table = refl; kept_in_caption = refl }; seen = record { no_heading = refl; no_p = refl; no_scope = refl; no_select = refl; role = refl; no_item = refl; no_description = refl; search = refl } }, (record { holds = record { has_end = refl; no_template = refl; no_title = refl; no_pre = refl }; starts = λ a w. refl; ends = λ w. refl; itself = refl; not_implied = refl; outside = record { no_structure = refl; no_cell = refl; closes_none = refl; not_ignored = refl; no_caption = refl; no_end_of_table = refl; kept_in_caption = refl }; seen = record { no_heading = refl; no_p = refl; no_scope = refl; no_select = refl; role = refl; no_item = refl; no_description = refl; search = refl } }, (record { holds = record { has_end = refl; no_template = refl; no_title = refl; no_pre = refl }; starts = λ a w. refl; ends = λ w. refl; itself = refl; not_implied = refl; outside = record { no_structure = refl; no_cell = refl; closes_none = refl; not_ignored = refl; no_caption = refl; no_end_of_table = refl; kept_in_caption = refl }; seen = record { no_heading = refl; no_p = refl; no_scope = refl; no_select = refl; role = refl; no_item = refl; no_description = refl; search = refl } }, (record { holds = record { has_end = refl; no_template = refl; no_title = refl; no_pre = refl }; starts = λ a w. refl; ends = λ w. refl; itself = refl; not_implied = refl; outside = record { no_structure = refl; no_cell = refl; closes_none = refl; not_ignored = refl; no_caption = refl; no_end_of_table = refl; kept_in_caption = refl }; seen = record { no_heading = refl; no_p = refl; no_scope = refl; no_select = refl; role = refl; no_item = refl; no_description = refl; search = refl } }, (record { holds = record { has_end = refl; no_template = refl; no_title = refl; no_pre = refl }; starts = λ a w. refl; ends = λ w. refl; itself = refl; not_implied = refl; outside = record { no_structure = refl; no_cell = refl; closes_none = refl; not_ignored = refl; no_caption = refl; no_end_of_table = refl; kept_in_caption = refl }; seen = record { no_heading = refl; no_p = refl; no_scope = refl; no_select = refl; role = refl; no_item = refl; no_description = refl; search = refl } }, (record { holds = record { has_end = refl; no_template = refl; no_title = refl; no_pre = refl }; starts = λ a w. refl; ends = λ w. refl; itself = refl; not_implied = refl; outside = record { no_structure = refl; no_cell = refl; closes_none = refl; not_ignored = refl; no_caption = refl; no_end_of_table = refl; kept_in_caption = refl }; seen = record { no_heading = refl; no_p = refl; no_scope = refl; no_select = refl; role = refl; no_item = refl; no_description = refl; search = refl } }, (record { holds = record { has_end = refl; no_template = refl; no_title = refl; no_pre = refl }; starts = λ a w. refl; ends = λ w. refl; itself = refl; not_implied = refl; outside = record { no_structure = refl; no_cell = refl; closes_none = refl; not_ignored = refl; no_caption = refl; no_end_of_table = refl; kept_in_caption = refl }; seen = record { no_heading = refl; no_p = refl; no_scope = refl; no_select = refl; role = refl; no_item = refl; no_description = refl; search = refl } }, (record { holds = record { has_end = refl; no_template = refl; no_title = refl; no_pre = refl }; starts = λ a w. refl; ends = λ w. refl; itself = refl; not_implied = refl; outside = record { no_structure = refl; no_cell = refl; closes_none = refl; not_ignored = refl; no_caption = refl; no_end_of_table = refl; kept_in_caption = refl }; seen = record { no_heading = refl; no_p = refl; no_scope = refl; no_select = refl; role = refl; no_item = refl; no_description = refl; search = refl } }, (record { holds = record { has_end = refl; no_template = refl; no_title = refl; no_pre = refl }; starts = λ a w. refl; ends = λ w. refl; itself = refl; not_implied = refl; outside = record { no_structure = refl; no_cell = refl; closes_none = refl; not_ignored = refl; no_caption = refl; no_end_of_table = refl; kept_in_caption = refl }; seen = record { no_heading = refl; no_p = refl; no_scope = refl; no_select = refl; role = refl; no_item = refl; no_description = refl; search = refl } }, (record { holds = record { has_end = refl; no_template = refl; no_title = refl; no_pre = refl }; starts = λ a w. refl; ends = λ w. refl; itself = refl; not_implied = refl; outside = record { no_structure = refl; no_cell = refl; closes_none = refl; not_ignored = refl; no_caption = refl; no_end_of_table = refl; kept_in_caption = refl }; seen = record { no_heading = refl; no_p = refl; no_scope = refl; no_select = refl; role = refl; no_item = refl; no_description = refl; search = refl } }, (record { holds = record { has_end = refl; no_template = refl; no_title = refl; no_pre = refl }; starts = λ a w. refl; ends = λ w. refl; itself = refl; not_implied = refl; outside = record { no_structure = refl; no_cell = refl; closes_none = refl; not_ignored = refl; no_caption = refl; no_end_of_table = refl; kept_in_caption = refl }; seen = record { no_heading = refl; no_p = refl; no_scope = refl; no_select = refl; role = refl; no_item = refl; no_description = refl; search = refl } }, (record { holds = record { has_end = refl; no_template = refl; no_title = refl; no_pre = refl }; starts = λ a w. refl; ends = λ w. refl; itself = refl; not_implied = refl; outside = record { no_structure = refl; no_cell = refl; closes_none = refl; not_ignored = refl; no_caption = refl; no_end_of_table = refl; kept_in_caption = refl }; seen = record { no_heading = refl; no_p = refl; no_scope = refl; no_select = refl; role = refl; no_item = refl; no_description = refl; search = refl } }, (record { holds = record { has_end = refl; no_template = refl; no_title = refl; no_pre = refl }; starts = λ a w. refl; ends = λ w. refl; itself = refl; not_implied = refl; outside = record { no_structure = refl; no_cell = refl; closes_none = refl; not_ignored = refl; no_caption = refl; no_end_of_table = refl; kept_in_caption = refl }; seen = record { no_heading = refl; no_p = refl; no_scope = refl; no_select = refl; role = refl; no_item = refl; no_description = refl; search = refl } }, (record { holds = record { has_end = refl; no_template = refl; no_title = refl; no_pre = refl }; starts = λ a w. refl; ends = λ w. refl; itself = refl; not_implied = refl; outside = record { no_structure = refl; no_cell = refl; closes_none = refl; not_ignored = refl; no_caption = refl; no_end_of_table = refl; kept_in_caption = refl }; seen = record { no_heading = refl; no_p = refl; no_scope = refl; no_select = refl; role = refl; no_item = refl; no_description = refl; search = refl } }, (record { holds = record { has_end = refl; no_template = refl; no_title = refl; no_pre = refl }; starts = λ a w. refl; ends = λ w. refl; itself = refl; not_implied = refl; outside = record { no_structure = refl; no_cell = refl; closes_none = refl; not_ignored = refl; no_caption = refl; no_end_of_table = refl; kept_in_caption = refl }; seen = record { no_heading = refl; no_p = refl; no_scope = refl; no_select = refl; role = refl; no_item = refl; no_description = refl; search = refl } }, (record { holds = record { has_end = refl; no_template = refl; no_title = refl; no_pre = refl }; starts = λ a w. refl; ends = λ w. refl; itself = refl; not_implied = refl; outside = record { no_structure = refl; no_cell = refl; closes_none = refl; not_ignored = refl; no_caption = refl; no_end_of_table = refl; kept_in_caption = refl }; seen = record { no_heading = refl; no_p = refl; no_scope = refl; no_select = refl; role = refl; no_item = refl; no_description = refl; search = refl } }, (record { holds = record { has_end = refl; no_template = refl; no_title = refl; no_pre = refl }; starts = λ a w. refl; ends = λ w. refl; itself = refl; not_implied = refl; outside = record { no_structure = refl; no_cell = refl; closes_none = refl; not_ignored = refl; no_caption = refl; no_end_of_table = refl; kept_in_caption = refl }; seen = record { no_heading = refl; no_p = refl; no_scope = refl; no_select = refl; role = refl; no_item = refl; no_description = refl; search = refl } }, (record { holds = record { has_end = refl; no_template = refl; no_title = refl; no_pre = refl }; starts = λ a w. refl; ends = λ w. refl; itself = refl; not_implied = refl; outside = record { no_structure = refl; no_cell = refl; closes_none = refl; not_ignored = refl; no_caption = refl; no_end_of_table = refl; kept_in_caption = refl }; seen = record { no_heading = refl; no_p = refl; no_scope = refl; no_select = refl; role = refl; no_item = refl; no_description = refl; search = refl } }, (record { holds = record { has_end = refl; no_template = refl; no_title = refl; no_pre = refl }; starts = λ a w. refl; ends = λ w. refl; itself = refl; not_implied = refl; outside = record { no_structure = refl; no_cell = refl; closes_none = refl; not_ignored = refl; no_caption = refl; no_end_of_table = refl; kept_in_caption = refl }; seen = record { no_heading = refl; no_p = refl; no_scope = refl; no_select = refl; role = refl; no_item = refl; no_description = refl; search = refl } }, tt)))))))))))))))))))))

pub is_phrase : (name : List ℕ) → is_one_of phrase_names name ≡ true → IsPhraseName in_body_start_other name
is_phrase name h = of_each (IsPhraseName in_body_start_other) phrase_names phrases name h

-- a `ruby` has none either
pub ruby : IsPhraseName in_body_start_other (codes "ruby")
unfolding void_names in_body_tag in_body_start in_body_start_blocks in_body_start_inline in_body_start_embedded head_start_names in_body_end in_body_end_blocks in_body_end_inline block_start_names block_end_names html_namespace mathml_namespace svg_namespace is_html_named is_button_scope is_default_scope is_foreign_special scope_names button_scope_names is_heading heading_names role_of role_of_local is_special special_names passed_names list_item_names description_names formatting_names in_body_preformatted in_body_marked in_body_void in_body_parts in_body_ruby_bases in_body_ruby_texts in_body_ignored_starts outside_names is_implied implied_names table_structure_names cell_names in_cell_closing_ends in_cell_ignored_ends in_caption_ignored_ends
ruby = record { holds = record { has_end = refl; no_template = refl; no_title = refl; no_pre = refl }; starts = λ a w. refl; ends = λ w. refl; itself = refl; not_implied = refl; outside = record { no_structure = refl; no_cell = refl; closes_none = refl; not_ignored = refl; no_caption = refl; no_end_of_table = refl; kept_in_caption = refl }; seen = record { no_heading = refl; no_p = refl; no_scope = refl; no_select = refl; role = refl; no_item = refl; no_description = refl; search = refl } }

-- the start tag of an `rp` or `rt` has one
ruby_texts : HoldsOfAll (IsPhraseName in_body_start_ruby_text) ruby_text_names
unfolding ruby_text_names void_names in_body_tag in_body_start in_body_start_blocks in_body_start_inline in_body_start_embedded head_start_names in_body_end in_body_end_blocks in_body_end_inline block_start_names block_end_names html_namespace mathml_namespace svg_namespace is_html_named is_button_scope is_default_scope is_foreign_special scope_names button_scope_names is_heading heading_names role_of role_of_local is_special special_names passed_names list_item_names description_names formatting_names in_body_preformatted in_body_marked in_body_void in_body_parts in_body_ruby_bases in_body_ruby_texts in_body_ignored_starts outside_names is_implied implied_names table_structure_names cell_names in_cell_closing_ends in_cell_ignored_ends in_caption_ignored_ends
ruby_texts = (record { holds = record { has_end = refl; no_template = refl; no_title = refl; no_pre = refl }; starts = λ a w. refl; ends = λ w. refl; itself = refl; not_implied = refl; outside = record { no_structure = refl; no_cell = refl; closes_none = refl; not_ignored = refl; no_caption = refl; no_end_of_table = refl; kept_in_caption = refl }; seen = record { no_heading = refl; no_p = refl; no_scope = refl; no_select = refl; role = refl; no_item = refl; no_description = refl; search = refl } }, (record { holds = record { has_end = refl; no_template = refl; no_title = refl; no_pre = refl }; starts = λ a w. refl; ends = λ w. refl; itself = refl; not_implied = refl; outside = record { no_structure = refl; no_cell = refl; closes_none = refl; not_ignored = refl; no_caption = refl; no_end_of_table = refl; kept_in_caption = refl }; seen = record { no_heading = refl; no_p = refl; no_scope = refl; no_select = refl; role = refl; no_item = refl; no_description = refl; search = refl } }, tt))

pub is_ruby_text : (name : List ℕ) → is_one_of ruby_text_names name ≡ true → IsPhraseName in_body_start_ruby_text name
is_ruby_text name h = of_each (IsPhraseName in_body_start_ruby_text) ruby_text_names ruby_texts name h

-- one without an end tag, that stands in a line
pub record IsMarkName (name : List ℕ) : Type 0 where
  pub no_end : has_end_tag name ≡ false
  pub no_template : is_html_template (html_name name) ≡ false
  pub no_title : is_same_text name (codes "title") ≡ false
  pub starts : (a : List AttributeText) (w : World) → rule InBody (TagTurn (start name a)) w ≡ in_body_start_void (start name a) w
  pub no_structure : is_one_of table_structure_names name ≡ false

marks : HoldsOfAll IsMarkName mark_names
unfolding mark_names void_names html_namespace in_body_tag in_body_start in_body_start_blocks in_body_start_inline in_body_start_embedded head_start_names in_body_end in_body_end_blocks in_body_end_inline block_start_names block_end_names heading_names formatting_names in_body_preformatted list_item_names description_names in_body_marked in_body_void table_structure_names
marks = (record { no_end = refl; no_template = refl; no_title = refl; starts = λ a w. refl; no_structure = refl }, (record { no_end = refl; no_template = refl; no_title = refl; starts = λ a w. refl; no_structure = refl }, (record { no_end = refl; no_template = refl; no_title = refl; starts = λ a w. refl; no_structure = refl }, tt)))

pub is_mark : (name : List ℕ) → is_one_of mark_names name ≡ true → IsMarkName name
is_mark name h = of_each IsMarkName mark_names marks name h

-- a `hr`
pub hr_rule : (a : List AttributeText) (w : World) → rule InBody (TagTurn (start (codes "hr") a)) w ≡ in_body_start_hr (start (codes "hr") a) w
unfolding in_body_tag in_body_start in_body_start_blocks in_body_start_inline in_body_start_embedded head_start_names in_body_end in_body_end_blocks in_body_end_inline block_start_names block_end_names heading_names formatting_names in_body_preformatted list_item_names description_names in_body_marked in_body_void in_body_parts
hr_rule a w = refl

pub hr_no_structure : is_one_of table_structure_names (codes "hr") ≡ false
unfolding table_structure_names
hr_no_structure = refl
