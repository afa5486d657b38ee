-- The rules that the tags of blocks and inlines follow in the body, and what their names are.
use Rattle.std.proofs.Common.{◌≡◌, ◌||◌, ℕ, Bool, true, false, List, [], ◌∷◌, codes, refl, subst}
use Rattle.std.proofs.lemmas.Slice.Eq.{bytes_eq-Decides}
use Rattle.h5_names.specs.AttributeText.{AttributeText, is_same_text}
use Rattle.h5_interface.specs.NewElement.{is_html_template}
use Rattle.h5_tables.specs.TagSets.{block_end_names, block_start_names, button_scope_names, cell_names, heading_names, html_namespace, implied_names, is_button_scope, is_default_scope, is_foreign_special, is_heading, is_html_named, is_implied, is_one_of, is_special, mathml_namespace, scope_names, special_names, svg_namespace, void_names}
use Rattle.h5_tables.specs.TurnText.{TagTurn}
use Rattle.h5_tables.specs.declared.modes.InsertionMode.TheVariants.{InBody}
use Rattle.h5_builder_spec.specs.formatting.FormattingNames.{html_name}
use Rattle.h5_builder_spec.specs.modes.InBody.{description_names, in_body_end, in_body_end_block, in_body_end_blocks, in_body_end_heading, in_body_end_inline, in_body_end_p, in_body_start, in_body_start_block, in_body_start_blocks, in_body_start_embedded, in_body_preformatted, in_body_start_heading, in_body_start_inline, in_body_start_preformatted, in_body_tag, list_item_names}
use Rattle.h5_builder_spec.specs.modes.InCaption.{in_caption_ignored_ends}
use Rattle.h5_builder_spec.specs.modes.InCell.{in_cell_closing_ends, in_cell_ignored_ends}
use Rattle.h5_builder_spec.specs.modes.Modes.{rule}
use Rattle.h5_builder_spec.specs.modes.Shared.{head_start_names, table_structure_names}
use Rattle.h5_builder_spec.specs.World.{World}
use Rattle.h5_builder_spec.specs.reset.Roles.{PlainRole, role_of, role_of_local}
use Rattle.h5_builder_spec.specs.stack.Closing.{ends_item_search, is_html_among, passed_names}
use Rattle.h5_builder_laws.specs.Plain.{barrier_names, has_end_tag, open_block_names}
use Rattle.h5_builder_laws.proofs.ModeLaws.{IsOutside}
use Rattle.h5_builder_laws.proofs.RuleLaws.{end, start}
use Rattle.h5_builder_spec.proofs.rows.ByNameLaws.{HoldsOfAll}

-- a `p` and its end
pub p_rule : (a : List AttributeText) (w : World) → rule InBody (TagTurn (start (codes "p") a)) w ≡ in_body_start_block (start (codes "p") a) w
unfolding in_body_tag in_body_start in_body_start_blocks in_body_start_inline in_body_start_embedded head_start_names block_start_names
p_rule a w = refl

pub p_end_rule : (w : World) → rule InBody (TagTurn (end (codes "p"))) w ≡ in_body_end_p (end (codes "p")) w
unfolding in_body_tag in_body_end in_body_end_blocks in_body_end_inline block_end_names
p_end_rule w = refl

-- an element of this name is written with an end tag, and takes children itself; it is no `title` and no `pre`
pub record IsHolder (name : List ℕ) : Type 0 where
  pub has_end : has_end_tag name ≡ true
  pub no_template : is_html_template (html_name name) ≡ false
  pub no_title : is_same_text name (codes "title") ≡ false
  pub no_pre : is_same_text name (codes "pre") ≡ false

-- a `p` does
pub p_holds : IsHolder (codes "p")
unfolding void_names
p_holds = record { has_end = refl; no_template = refl; no_title = refl; no_pre = refl }

-- and a cell leaves it to the body
pub p_outside : IsOutside (codes "p")
unfolding table_structure_names cell_names in_cell_closing_ends in_cell_ignored_ends in_caption_ignored_ends
p_outside = record { no_structure = refl; no_cell = refl; closes_none = refl; not_ignored = refl; no_caption = refl; no_end_of_table = refl; kept_in_caption = refl }

-- an element of this name is none of those that the rules of the body look for through open elements; it ends the search for an
-- item of a list, or doesn't
pub record IsSeen (barrier : Bool) (name : List ℕ) : Type 0 where
  pub no_heading : is_heading (html_name name) ≡ false
  pub no_p : is_html_named (codes "p") (html_name name) ≡ false
  pub no_scope : is_button_scope (html_name name) ≡ false
  pub no_select : is_html_named (codes "select") (html_name name) ≡ false
  pub role : role_of (html_name name) ≡ PlainRole
  pub no_item : is_html_among list_item_names (html_name name) ≡ false
  pub no_description : is_html_among description_names (html_name name) ≡ false
  pub search : ends_item_search (html_name name) ≡ barrier

-- a block that has no rule except by its name
pub record IsBlockName (name : List ℕ) : Type 0 where
  pub holds : IsHolder name
  pub starts : (a : List AttributeText) (w : World) → rule InBody (TagTurn (start name a)) w ≡ in_body_start_block (start name a) w
  pub ends : (w : World) → rule InBody (TagTurn (end name)) w ≡ in_body_end_block (end name) w
  pub itself : is_html_named name (html_name name) ≡ true
  pub not_implied : is_implied (html_name name) ≡ false
  pub outside : IsOutside name

-- a `pre`
pub record IsPre : Type 0 where
  pub has_end : has_end_tag (codes "pre") ≡ true
  pub no_template : is_html_template (html_name (codes "pre")) ≡ false
  pub starts : (a : List AttributeText) (w : World) → rule InBody (TagTurn (start (codes "pre") a)) w ≡ in_body_start_preformatted (start (codes "pre") a) w
  pub ends : (w : World) → rule InBody (TagTurn (end (codes "pre"))) w ≡ in_body_end_block (end (codes "pre")) w
  pub itself : is_html_named (codes "pre") (html_name (codes "pre")) ≡ true
  pub not_implied : is_implied (html_name (codes "pre")) ≡ false
  pub outside : IsOutside (codes "pre")
  pub seen : IsSeen true (codes "pre")

pub pre : IsPre
unfolding void_names in_body_preformatted in_body_tag in_body_start in_body_start_blocks in_body_start_inline in_body_start_embedded head_start_names in_body_end in_body_end_blocks in_body_end_inline block_start_names block_end_names html_namespace mathml_namespace svg_namespace is_html_named is_button_scope is_default_scope is_foreign_special scope_names button_scope_names is_heading heading_names role_of role_of_local is_special special_names passed_names list_item_names description_names is_implied implied_names table_structure_names cell_names in_cell_closing_ends in_cell_ignored_ends in_caption_ignored_ends
pre = record {
  has_end = refl;
  no_template = refl;
  starts = λ a w. refl;
  ends = λ w. refl;
  itself = refl;
  not_implied = refl;
  outside = record { no_structure = refl; no_cell = refl; closes_none = refl; not_ignored = refl; no_caption = refl; no_end_of_table = refl; kept_in_caption = refl };
  seen = record { no_heading = refl; no_p = refl; no_scope = refl; no_select = refl; role = refl; no_item = refl; no_description = refl; search = refl };
}

-- a heading
pub record IsHeadingName (name : List ℕ) : Type 0 where
  pub holds : IsHolder name
  pub starts : (a : List AttributeText) (w : World) → rule InBody (TagTurn (start name a)) w ≡ in_body_start_heading (start name a) w
  pub ends : (w : World) → rule InBody (TagTurn (end name)) w ≡ in_body_end_heading (end name) w
  pub itself : is_html_named name (html_name name) ≡ true
  pub heading : is_heading (html_name name) ≡ true
  pub not_implied : is_implied (html_name name) ≡ false
  pub no_p : is_html_named (codes "p") (html_name name) ≡ false
  pub no_scope : is_button_scope (html_name name) ≡ false
  pub no_select : is_html_named (codes "select") (html_name name) ≡ false
  pub role : role_of (html_name name) ≡ PlainRole
  pub search : ends_item_search (html_name name) ≡ true
  pub no_item : is_html_among list_item_names (html_name name) ≡ false
  pub no_description : is_html_among description_names (html_name name) ≡ false
  pub outside : IsOutside name

-- what holds for each name holds for any one of them
pub of_each : (Of : List ℕ → Type 0) (names : List (List ℕ)) → HoldsOfAll Of names → (name : List ℕ) → is_one_of names name ≡ true → Of name
of_each Of [] each name h = absurd (cc)
of_each Of (n ∷ ns) each name h = at (of_each Of ns each.1 name) (is_same_text n name) refl h
  where
    at : (is_one_of ns name ≡ true → Of name) → (b : Bool) → is_same_text n name ≡ b → (b || is_one_of ns name) ≡ true → Of name
    at others true e k = subst Of ((bytes_eq-Decides n name).0 e) each.0
    at others false e k = others k

-- and is seen so
pub record IsBlockIn (barrier : Bool) (name : List ℕ) : Type 0 where
  pub block : IsBlockName name
  pub seen : IsSeen barrier name

open_blocks : HoldsOfAll (IsBlockIn false) open_block_names
unfolding open_block_names void_names in_body_tag in_body_start in_body_start_blocks in_body_start_inline in_body_start_embedded head_start_names in_body_end in_body_end_blocks in_body_end_inline block_start_names block_end_names html_namespace mathml_namespace svg_namespace is_html_named is_button_scope is_default_scope is_foreign_special scope_names button_scope_names is_heading heading_names role_of role_of_local is_special special_names passed_names list_item_names description_names is_implied implied_names table_structure_names cell_names in_cell_closing_ends in_cell_ignored_ends in_caption_ignored_ends
open_blocks = (record { block = record { holds = record { has_end = refl; no_template = refl; no_title = refl; no_pre = refl }; starts = λ a w. refl; ends = λ w. refl; itself = refl; not_implied = refl; outside = record { no_structure = refl; no_cell = refl; closes_none = refl; not_ignored = refl; no_caption = refl; no_end_of_table = refl; kept_in_caption = refl } }; seen = record { no_heading = refl; no_p = refl; no_scope = refl; no_select = refl; role = refl; no_item = refl; no_description = refl; search = refl } }, (record { block = record { holds = record { has_end = refl; no_template = refl; no_title = refl; no_pre = refl }; starts = λ a w. refl; ends = λ w. refl; itself = refl; not_implied = refl; outside = record { no_structure = refl; no_cell = refl; closes_none = refl; not_ignored = refl; no_caption = refl; no_end_of_table = refl; kept_in_caption = refl } }; seen = record { no_heading = refl; no_p = refl; no_scope = refl; no_select = refl; role = refl; no_item = refl; no_description = refl; search = refl } }, (record { block = record { holds = record { has_end = refl; no_template = refl; no_title = refl; no_pre = refl }; starts = λ a w. refl; ends = λ w. refl; itself = refl; not_implied = refl; outside = record { no_structure = refl; no_cell = refl; closes_none = refl; not_ignored = refl; no_caption = refl; no_end_of_table = refl; kept_in_caption = refl } }; seen = record { no_heading = refl; no_p = refl; no_scope = refl; no_select = refl; role = refl; no_item = refl; no_description = refl; search = refl } }, tt)))

pub is_open_block : (name : List ℕ) → is_one_of open_block_names name ≡ true → IsBlockIn false name
is_open_block name h = of_each (IsBlockIn false) open_block_names open_blocks name h

barriers : HoldsOfAll (IsBlockIn true) barrier_names
unfolding barrier_names void_names in_body_tag in_body_start in_body_start_blocks in_body_start_inline in_body_start_embedded head_start_names in_body_end in_body_end_blocks in_body_end_inline block_start_names block_end_names html_namespace mathml_namespace svg_namespace is_html_named is_button_scope is_default_scope is_foreign_special scope_names button_scope_names is_heading heading_names role_of role_of_local is_special special_names passed_names list_item_names description_names is_implied implied_names table_structure_names cell_names in_cell_closing_ends in_cell_ignored_ends in_caption_ignored_ends
barriers = (record { block = record { holds = record { has_end = refl; no_template = refl; no_title = refl; no_pre = refl }; starts = λ a w. refl; ends = λ w. refl; itself = refl; not_implied = refl; outside = record { no_structure = refl; no_cell = refl; closes_none = refl; not_ignored = refl; no_caption = refl; no_end_of_table = refl; kept_in_caption = refl } }; seen = record { no_heading = refl; no_p = refl; no_scope = refl; no_select = refl; role = refl; no_item = refl; no_description = refl; search = refl } }, (record { block = record { holds = record { has_end = refl; no_template = refl; no_title = refl; no_pre = refl }; starts = λ a w. refl; ends = λ w. refl; itself = refl; not_implied = refl; outside = record { no_structure = refl; no_cell = refl; closes_none = refl; not_ignored = refl; no_caption = refl; no_end_of_table = refl; kept_in_caption = refl } }; seen = record { no_heading = refl; no_p = refl; no_scope = refl; no_select = refl; role = refl; no_item = refl; no_description = refl; search = refl } }, (record { block = record { holds = record { has_end = refl; no_template = refl; no_title = refl; no_pre = refl }; starts = λ a w. refl; ends = λ w. refl; itself = refl; not_implied = refl; outside = record { no_structure = refl; no_cell = refl; closes_none = refl; not_ignored = refl; no_caption = refl; no_end_of_table = refl; kept_in_caption = refl } }; seen = record { no_heading = refl; no_p = refl; no_scope = refl; no_select = refl; role = refl; no_item = refl; no_description = refl; search = refl } }, (record { block = record { holds = record { has_end = refl; no_template = refl; no_title = refl; no_pre = refl }; starts = λ a w. refl; ends = λ w. refl; itself = refl; not_implied = refl; outside = record { no_structure = refl; no_cell = refl; closes_none = refl; not_ignored = refl; no_caption = refl; no_end_of_table = refl; kept_in_caption = refl } }; seen = record { no_heading = refl; no_p = refl; no_scope = refl; no_select = refl; role = refl; no_item = refl; no_description = refl; search = refl } }, (record { block = record { holds = record { has_end = refl; no_template = refl; no_title = refl; no_pre = refl }; starts = λ a w. refl; ends = λ w. refl; itself = refl; not_implied = refl; outside = record { no_structure = refl; no_cell = refl; closes_none = refl; not_ignored = refl; no_caption = refl; no_end_of_table = refl; kept_in_caption = refl } }; seen = record { no_heading = refl; no_p = refl; no_scope = refl; no_select = refl; role = refl; no_item = refl; no_description = refl; search = refl } }, (record { block = record { holds = record { has_end = refl; no_template = refl; no_title = refl; no_pre = refl }; starts = λ a w. refl; ends = λ w. refl; itself = refl; not_implied = refl; outside = record { no_structure = refl; no_cell = refl; closes_none = refl; not_ignored = refl; no_caption = refl; no_end_of_table = refl; kept_in_caption = refl } }; seen = record { no_heading = refl; no_p = refl; no_scope = refl; no_select = refl; role = refl; no_item = refl; no_description = refl; search = refl } }, (record { block = record { holds = record { has_end = refl; no_template = refl; no_title = refl; no_pre = refl }; starts = λ a w. refl; ends = λ w. refl; itself = refl; not_implied = refl; outside = record { no_structure = refl; no_cell = refl; closes_none = refl; not_ignored = refl; no_caption = refl; no_end_of_table = refl; kept_in_caption = refl } }; seen = record { no_heading = refl; no_p = refl; no_scope = refl; no_select = refl; role = refl; no_item = refl; no_description = refl; search = refl } }, (record { block = record { holds = record { has_end = refl; no_template = refl; no_title = refl; no_pre = refl }; starts = λ a w. refl; ends = λ w. refl; itself = refl; not_implied = refl; outside = record { no_structure = refl; no_cell = refl; closes_none = refl; not_ignored = refl; no_caption = refl; no_end_of_table = refl; kept_in_caption = refl } }; seen = record { no_heading = refl; no_p = refl; no_scope = refl; no_select = refl; role = refl; no_item = refl; no_description = refl; search = refl } }, (record { block = record { holds = record { has_end = refl; no_template = refl; no_title = refl; no_pre = refl }; starts = λ a w. refl; ends = λ w. refl; itself = refl; not_implied = refl; outside = record { no_structure = refl; no_cell = refl; closes_none = refl; not_ignored = refl; no_caption = refl; no_end_of_table = refl; kept_in_caption = refl } }; seen = record { no_heading = refl; no_p = refl; no_scope = refl; no_select = refl; role = refl; no_item = refl; no_description = refl; search = refl } }, (record { block = record { holds = record { has_end = refl; no_template = refl; no_title = refl; no_pre = refl }; starts = λ a w. refl; ends = λ w. refl; itself = refl; not_implied = refl; outside = record { no_structure = refl; no_cell = refl; closes_none = refl; not_ignored = refl; no_caption = refl; no_end_of_table = refl; kept_in_caption = refl } }; seen = record { no_heading = refl; no_p = refl; no_scope = refl; no_select = refl; role = refl; no_item = refl; no_description = refl; search = refl } }, (record { block = record { holds = record { has_end = refl; no_template = refl; no_title = refl; no_pre = refl }; starts = λ a w. refl; ends = λ w. refl; itself = refl; not_implied = refl; outside = record { no_structure = refl; no_cell = refl; closes_none = refl; not_ignored = refl; no_caption = refl; no_end_of_table = refl; kept_in_caption = refl } }; seen = record { no_heading = refl; no_p = refl; no_scope = refl; no_select = refl; role = refl; no_item = refl; no_description = refl; search = refl } }, (record { block = record { holds = record { has_end = refl; no_template = refl; no_title = refl; no_pre = refl }; starts = λ a w. refl; ends = λ w. refl; itself = refl; not_implied = refl; outside = record { no_structure = refl; no_cell = refl; closes_none = refl; not_ignored = refl; no_caption = refl; no_end_of_table = refl; kept_in_caption = refl } }; seen = record { no_heading = refl; no_p = refl; no_scope = refl; no_select = refl; role = refl; no_item = refl; no_description = refl; search = refl } }, (record { block = record { holds = record { has_end = refl; no_template = refl; no_title = refl; no_pre = refl }; starts = λ a w. refl; ends = λ w. refl; itself = refl; not_implied = refl; outside = record { no_structure = refl; no_cell = refl; closes_none = refl; not_ignored = refl; no_caption = refl; no_end_of_table = refl; kept_in_caption = refl } }; seen = record { no_heading = refl; no_p = refl; no_scope = refl; no_select = refl; role = refl; no_item = refl; no_description = refl; search = refl } }, (record { block = record { holds = record { has_end = refl; no_template = refl; no_title = refl; no_pre = refl }; starts = λ a w. refl; ends = λ w. refl; itself = refl; not_implied = refl; outside = record { no_structure = refl; no_cell = refl; closes_none = refl; not_ignored = refl; no_caption = refl; no_end_of_table = refl; kept_in_caption = refl } }; seen = record { no_heading = refl; no_p = refl; no_scope = refl; no_select = refl; role = refl; no_item = refl; no_description = refl; search = refl } }, (record { block = record { holds = record { has_end = refl; no_template = refl; no_title = refl; no_pre = refl }; starts = λ a w. refl; ends = λ w. refl; itself = refl; not_implied = refl; outside = record { no_structure = refl; no_cell = refl; closes_none = refl; not_ignored = refl; no_caption = refl; no_end_of_table = refl; kept_in_caption = refl } }; seen = record { no_heading = refl; no_p = refl; no_scope = refl; no_select = refl; role = refl; no_item = refl; no_description = refl; search = refl } }, (record { block = record { holds = record { has_end = refl; no_template = refl; no_title = refl; no_pre = refl }; starts = λ a w. refl; ends = λ w. refl; itself = refl; not_implied = refl; outside = record { no_structure = refl; no_cell = refl; closes_none = refl; not_ignored = refl; no_caption = refl; no_end_of_table = refl; kept_in_caption = refl } }; seen = record { no_heading = refl; no_p = refl; no_scope = refl; no_select = refl; role = refl; no_item = refl; no_description = refl; search = refl } }, (record { block = record { holds = record { has_end = refl; no_template = refl; no_title = refl; no_pre = refl }; starts = λ a w. refl; ends = λ w. refl; itself = refl; not_implied = refl; outside = record { no_structure = refl; no_cell = refl; closes_none = refl; not_ignored = refl; no_caption = refl; no_end_of_table = refl; kept_in_caption = refl } }; seen = record { no_heading = refl; no_p = refl; no_scope = refl; no_select = refl; role = refl; no_item = refl; no_description = refl; search = refl } }, (record { block = record { holds = record { has_end = refl; no_template = refl; no_title = refl; no_pre = refl }; starts = λ a w. refl; ends = λ w. refl; itself = refl; not_implied = refl; outside = record { no_structure = refl; no_cell = refl; closes_none = refl; not_ignored = refl; no_caption = refl; no_end_of_table = refl; kept_in_caption = refl } }; seen = record { no_heading = refl; no_p = refl; no_scope = refl; no_select = refl; role = refl; no_item = refl; no_description = refl; search = refl } }, (record { block = record { holds = record { has_end = refl; no_template = refl; no_title = refl; no_pre = refl }; starts = λ a w. refl; ends = λ w. refl; itself = refl; not_implied = refl; outside = record { no_structure = refl; no_cell = refl; closes_none = refl; not_ignored = refl; no_caption = refl; no_end_of_table = refl; kept_in_caption = refl } }; seen = record { no_heading = refl; no_p = refl; no_scope = refl; no_select = refl; role = refl; no_item = refl; no_description = refl; search = refl } }, (record { block = record { holds = record { has_end = refl; no_template = refl; no_title = refl; no_pre = refl }; starts = λ a w. refl; ends = λ w. refl; itself = refl; not_implied = refl; outside = record { no_structure = refl; no_cell = refl; closes_none = refl; not_ignored = refl; no_caption = refl; no_end_of_table = refl; kept_in_caption = refl } }; seen = record { no_heading = refl; no_p = refl; no_scope = refl; no_select = refl; role = refl; no_item = refl; no_description = refl; search = refl } }, tt))))))))))))))))))))

pub is_barrier : (name : List ℕ) → is_one_of barrier_names name ≡ true → IsBlockIn true name
is_barrier name h = of_each (IsBlockIn true) barrier_names barriers name h

headings : HoldsOfAll IsHeadingName heading_names
unfolding void_names in_body_tag in_body_start in_body_start_blocks in_body_start_inline in_body_start_embedded head_start_names in_body_end in_body_end_blocks in_body_end_inline block_start_names block_end_names html_namespace mathml_namespace svg_namespace is_html_named is_button_scope is_default_scope is_foreign_special scope_names button_scope_names is_heading heading_names role_of role_of_local is_special special_names passed_names list_item_names description_names is_implied implied_names table_structure_names cell_names in_cell_closing_ends in_cell_ignored_ends in_caption_ignored_ends
headings = (record { holds = record { has_end = refl; no_template = refl; no_title = refl; no_pre = refl }; starts = λ a w. refl; ends = λ w. refl; itself = refl; heading = refl; not_implied = refl; no_p = refl; no_scope = refl; no_select = refl; role = refl; search = refl; no_item = refl; no_description = refl; outside = record { no_structure = refl; no_cell = refl; closes_none = refl; not_ignored = refl; no_caption = refl; no_end_of_table = refl; kept_in_caption = refl } }, (record { holds = record { has_end = refl; no_template = refl; no_title = refl; no_pre = refl }; starts = λ a w. refl; ends = λ w. refl; itself = refl; heading = refl; not_implied = refl; no_p = refl; no_scope = refl; no_select = refl; role = refl; search = refl; no_item = refl; no_description = refl; outside = record { no_structure = refl; no_cell = refl; closes_none = refl; not_ignored = refl; no_caption = refl; no_end_of_table = refl; kept_in_caption = refl } }, (record { holds = record { has_end = refl; no_template = refl; no_title = refl; no_pre = refl }; starts = λ a w. refl; ends = λ w. refl; itself = refl; heading = refl; not_implied = refl; no_p = refl; no_scope = refl; no_select = refl; role = refl; search = refl; no_item = refl; no_description = refl; outside = record { no_structure = refl; no_cell = refl; closes_none = refl; not_ignored = refl; no_caption = refl; no_end_of_table = refl; kept_in_caption = refl } }, (record { holds = record { has_end = refl; no_template = refl; no_title = refl; no_pre = refl }; starts = λ a w. refl; ends = λ w. refl; itself = refl; heading = refl; not_implied = refl; no_p = refl; no_scope = refl; no_select = refl; role = refl; search = refl; no_item = refl; no_description = refl; outside = record { no_structure = refl; no_cell = refl; closes_none = refl; not_ignored = refl; no_caption = refl; no_end_of_table = refl; kept_in_caption = refl } }, (record { holds = record { has_end = refl; no_template = refl; no_title = refl; no_pre = refl }; starts = λ a w. refl; ends = λ w. refl; itself = refl; heading = refl; not_implied = refl; no_p = refl; no_scope = refl; no_select = refl; role = refl; search = refl; no_item = refl; no_description = refl; outside = record { no_structure = refl; no_cell = refl; closes_none = refl; not_ignored = refl; no_caption = refl; no_end_of_table = refl; kept_in_caption = refl } }, (record { holds = record { has_end = refl; no_template = refl; no_title = refl; no_pre = refl }; starts = λ a w. refl; ends = λ w. refl; itself = refl; heading = refl; not_implied = refl; no_p = refl; no_scope = refl; no_select = refl; role = refl; search = refl; no_item = refl; no_description = refl; outside = record { no_structure = refl; no_cell = refl; closes_none = refl; not_ignored = refl; no_caption = refl; no_end_of_table = refl; kept_in_caption = refl } }, tt))))))

-- `h1` to `h6` are headings
pub is_heading_name : (name : List ℕ) → is_one_of heading_names name ≡ true → IsHeadingName name
is_heading_name name h = of_each IsHeadingName heading_names headings name h
