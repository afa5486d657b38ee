-- What is stored with the open elements, by their names.
use Rattle.std.specs.Prelude.{◌≡◌, ◌<◌, ◌^◌, ◌||◌, ℕ, List, [], ◌∷◌, Some, codes, length, map, reverse}
use Rattle.std.specs.List.{count_by}
use Rattle.h5_names.specs.declared.qualified.QualName.{QualName}
use Rattle.h5_interface.specs.NewElement.{is_html_template}
use Rattle.h5_builder_state.specs.Numbered.{numbers, values}
use Rattle.h5_tables.specs.NameSets.{has_flag}
use Rattle.h5_tables.specs.TagSets.{is_body_end_ok, is_button_scope, is_default_scope, is_html_named, is_implied, is_special}
use Rattle.h5_tables.specs.declared.name_sets.NameSet.TheVariants as set
use Rattle.h5_tables.specs.declared.name_sets.NameSets.{NameSets}
use Rattle.h5_builder_spec.specs.reset.Roles.{is_html_element}
use Rattle.h5_builder_spec.specs.stack.Closing.{ends_item_search}
use Rattle.h5_builder_spec.specs.stack.Scope.{has_body_in_scope, has_p_in_button_scope, has_unclosed}
use Rattle.h5_builder_state.specs.Newest.{newest_where, oldest_where}
use Rattle.h5_builder_state.specs.Numbers.{name_number}
use Rattle.h5_builder_state.specs.declared.open_element.AllOpen.{AllOpen}
use Rattle.h5_builder_state.specs.declared.open_element.OpenElement.{OpenElement}
use Rattle.h5_builder_state.specs.declared.open_element.OpenElements.{OpenElements}
use Rattle.h5_builder_state.specs.declared.open_element.Summary.{Summary}

-- the number of open HTML `template`s
abbrev pub open_templates : List QualName → ℕ
open_templates = count_by is_html_template

-- what is known about all open elements by their names, the newest first
abbrev pub all_open : List QualName → AllOpen
all_open names = record {
  unclosed = has_unclosed names;
  body_in_scope = has_body_in_scope names;
  p_in_button_scope = has_p_in_button_scope names;
  templates = open_templates names;
  special = newest_where is_special names;
  item_end = newest_where ends_item_search names;
  scope_end = newest_where is_default_scope names;
  html = newest_where is_html_element names;
  oldest_option = oldest_where (is_html_named (codes "option")) names;
}

-- the sets hold an element of this name, as far as `all_open` needs them
pub record AreSetsOf (name : QualName) (sets : NameSets) : Type 0 where
  pub special : has_flag sets.flags set.Special ≡ is_special name
  pub scope : has_flag sets.flags set.DefaultScope ≡ is_default_scope name
  pub button : (has_flag sets.flags set.DefaultScope || has_flag sets.flags set.ButtonScope) ≡ is_button_scope name
  pub body_end : has_flag sets.flags set.BodyEndOk ≡ is_body_end_ok name

-- the summary of an element of this name, over older ones of these names
abbrev pub summary_of : QualName → List QualName → Summary
summary_of name older = record { special = is_special name; implied = is_implied name; all = all_open (name ∷ older) }

-- the summaries of all
abbrev pub summaries : List QualName → List Summary
summaries [] = []
summaries (name ∷ older) = summary_of name older ∷ summaries older

-- the summaries and numbers stored with open elements of these names, the newest first, are right; places fit 32 bits
pub record IsKept {H : Type 0} (open_elems : OpenElements H) (names : List QualName) : Type 0 where
  pub summarized : reverse (map (λ (element : OpenElement H). element.summary) (values open_elems.elements)) ≡ summaries names
  pub numbered : map Some (reverse (numbers open_elems.elements)) ≡ map (name_number open_elems.numbers) names
  pub few : length open_elems.elements < 2 ^ 32
