-- The rules that the tags of items of lists, terms and descriptions follow in the body, and what their names are.
use Rattle.std.proofs.Common.{◌≡◌, ℕ, true, false, List, codes, refl}
use Rattle.h5_names.specs.AttributeText.{AttributeText}
use Rattle.h5_builder_spec.specs.reset.Roles.{PlainRole, role_of, role_of_local}
use Rattle.h5_builder_spec.specs.stack.Scope.{is_implied_but}
use Rattle.h5_tables.specs.TagSets.{block_end_names, block_start_names, button_scope_names, cell_names, heading_names, html_namespace, implied_names, is_button_scope, is_default_scope, is_foreign_special, is_heading, is_html_named, is_implied, is_one_of, is_special, mathml_namespace, scope_names, special_names, svg_namespace, void_names}
use Rattle.h5_tables.specs.TurnText.{TagTurn}
use Rattle.h5_tables.specs.declared.modes.InsertionMode.TheVariants.{InBody}
use Rattle.h5_builder_spec.specs.formatting.FormattingNames.{html_name}
use Rattle.h5_builder_spec.specs.stack.Closing.{ends_item_search, is_html_among, passed_names}
use Rattle.h5_builder_spec.specs.modes.InBody.{description_names, in_body_end_description, in_body_end, in_body_end_blocks, in_body_end_inline, in_body_end_li, in_body_preformatted, in_body_start, in_body_start_blocks, in_body_start_embedded, in_body_start_inline, in_body_start_item, in_body_tag, list_item_names}
use Rattle.h5_builder_spec.specs.modes.InCaption.{in_caption_ignored_ends}
use Rattle.h5_builder_spec.specs.modes.InCell.{in_cell_closing_ends, in_cell_ignored_ends}
use Rattle.h5_builder_spec.specs.modes.Modes.{rule}
use Rattle.h5_builder_spec.specs.modes.Shared.{head_start_names, table_structure_names}
use Rattle.h5_builder_spec.specs.World.{World}
use Rattle.h5_builder_laws.specs.Plain.{term_names}
use Rattle.h5_builder_laws.proofs.BodyRuleLaws.{IsHolder, of_each}
use Rattle.h5_builder_laws.proofs.ModeLaws.{IsOutside}
use Rattle.h5_builder_laws.proofs.RuleLaws.{end, start}
use Rattle.h5_builder_spec.proofs.rows.ByNameLaws.{HoldsOfAll}

-- a `li` and its end
pub item_rule : (a : List AttributeText) (w : World) → rule InBody (TagTurn (start (codes "li") a)) w ≡ in_body_start_item list_item_names (start (codes "li") a) w
unfolding in_body_tag in_body_start in_body_start_blocks in_body_start_inline in_body_start_embedded head_start_names block_start_names heading_names in_body_preformatted list_item_names
item_rule a w = refl

pub item_end_rule : (w : World) → rule InBody (TagTurn (end (codes "li"))) w ≡ in_body_end_li (end (codes "li")) w
unfolding in_body_tag in_body_end in_body_end_blocks in_body_end_inline block_end_names list_item_names
item_end_rule w = refl

pub item_holds : IsHolder (codes "li")
unfolding void_names
item_holds = record { has_end = refl; no_template = refl; no_title = refl; no_pre = refl }

-- a cell leaves it to the body
pub item_outside : IsOutside (codes "li")
unfolding table_structure_names cell_names in_cell_closing_ends in_cell_ignored_ends in_caption_ignored_ends
item_outside = record { no_structure = refl; no_cell = refl; closes_none = refl; not_ignored = refl; no_caption = refl; no_end_of_table = refl; kept_in_caption = refl }

-- what it is to what looks for it
pub item_seen : (is_html_named (codes "p") (html_name (codes "li")) ≡ false) × ((is_button_scope (html_name (codes "li")) ≡ false) × ((is_heading (html_name (codes "li")) ≡ false) × ((role_of (html_name (codes "li")) ≡ PlainRole) × ((is_html_named (codes "select") (html_name (codes "li")) ≡ false) × ((is_html_among description_names (html_name (codes "li")) ≡ false) × (ends_item_search (html_name (codes "li")) ≡ true))))))
unfolding html_namespace mathml_namespace svg_namespace is_html_named is_button_scope is_default_scope is_foreign_special scope_names button_scope_names is_heading heading_names role_of role_of_local is_special special_names passed_names list_item_names description_names
item_seen = (refl, (refl, (refl, (refl, (refl, (refl, refl))))))

-- a `dd` or `dt`
pub record IsTermName (name : List ℕ) : Type 0 where
  pub holds : IsHolder name
  pub starts : (a : List AttributeText) (w : World) → rule InBody (TagTurn (start name a)) w ≡ in_body_start_item description_names (start name a) w
  pub ends : (w : World) → rule InBody (TagTurn (end name)) w ≡ in_body_end_description (end name) w
  pub itself : is_html_named name (html_name name) ≡ true
  pub not_implied : is_implied_but name (html_name name) ≡ false
  pub no_p : is_html_named (codes "p") (html_name name) ≡ false
  pub no_scope : is_button_scope (html_name name) ≡ false
  pub no_heading : is_heading (html_name name) ≡ false
  pub role : role_of (html_name name) ≡ PlainRole
  pub no_select : is_html_named (codes "select") (html_name name) ≡ false
  pub no_item : is_html_among list_item_names (html_name name) ≡ false
  pub search : ends_item_search (html_name name) ≡ true
  pub outside : IsOutside name

terms : HoldsOfAll IsTermName term_names
unfolding term_names void_names in_body_tag in_body_start in_body_start_blocks in_body_start_inline in_body_start_embedded head_start_names in_body_end in_body_end_blocks in_body_end_inline block_start_names block_end_names html_namespace mathml_namespace svg_namespace is_html_named is_button_scope is_default_scope is_foreign_special scope_names button_scope_names is_heading heading_names role_of role_of_local is_special special_names passed_names list_item_names description_names in_body_preformatted is_implied implied_names table_structure_names cell_names in_cell_closing_ends in_cell_ignored_ends in_caption_ignored_ends
terms = (record { holds = record { has_end = refl; no_template = refl; no_title = refl; no_pre = refl }; starts = λ a w. refl; ends = λ w. refl; itself = refl; not_implied = refl; no_p = refl; no_scope = refl; no_heading = refl; role = refl; no_select = refl; no_item = refl; search = refl; outside = record { no_structure = refl; no_cell = refl; closes_none = refl; not_ignored = refl; no_caption = refl; no_end_of_table = refl; kept_in_caption = refl } }, (record { holds = record { has_end = refl; no_template = refl; no_title = refl; no_pre = refl }; starts = λ a w. refl; ends = λ w. refl; itself = refl; not_implied = refl; no_p = refl; no_scope = refl; no_heading = refl; role = refl; no_select = refl; no_item = refl; search = refl; outside = record { no_structure = refl; no_cell = refl; closes_none = refl; not_ignored = refl; no_caption = refl; no_end_of_table = refl; kept_in_caption = refl } }, tt))

pub is_term : (name : List ℕ) → is_one_of term_names name ≡ true → IsTermName name
is_term name h = of_each IsTermName term_names terms name h
