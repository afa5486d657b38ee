-- Closing elements (HTML standard, sections 13.2.6.3 and 13.2.6.4.7).
use Rattle.std.specs.Prelude.{ℕ, Bool, not, ◌&&◌, if◌then◌else◌, List, [], ◌∷◌, Option, None, Some, codes}
use Rattle.h5_names.specs.AttributeText.{is_same_text}
use Rattle.h5_names.specs.declared.qualified.QualName.{QualName}
use Rattle.h5_interface.specs.SinkChoices.{SinkChoices}
use Rattle.h5_tables.specs.TagSets.{html_namespace, is_cell, is_default_scope, is_heading, is_html_named, is_implied, is_one_of, is_special, is_thorough_implied}
use Rattle.h5_builder_spec.specs.stack.Order.{is_in}
use Rattle.h5_builder_spec.specs.stack.Scope.{comes_before_special, cut_through, first_passes, has_p_in_button_scope, in_scope}
use Rattle.h5_builder_spec.specs.Changes.{generate_implied_end_except, pop, pop_until_named, pop_while, with_forest}
use Rattle.h5_builder_spec.specs.World.{World, names_of}

-- "generate implied end tags"
unfoldable pub generate_implied_end_tags : SinkChoices → World → World
generate_implied_end_tags choices w = pop_while choices is_implied (names_of w) w

-- "generate all implied end tags thoroughly"
unfoldable pub generate_implied_end_thoroughly : SinkChoices → World → World
generate_implied_end_thoroughly choices w = pop_while choices is_thorough_implied (names_of w) w

-- "close a p element"
unfoldable pub close_p_element : SinkChoices → World → World
close_p_element choices w = pop_until_named (codes "p") (generate_implied_end_except choices (codes "p") w)

-- "close a p element", if a `p` is in button scope
unfoldable pub close_p_element_in_button_scope : SinkChoices → World → World
close_p_element_in_button_scope choices w = if has_p_in_button_scope (names_of w) then close_p_element choices w else w

-- the current node is popped, if it is a heading
unfoldable pub pop_heading : SinkChoices → World → World
pop_heading choices w = if first_passes is_heading (names_of w) then pop choices w else w

-- pops without notifying the sink, up to and including the newest heading
unfoldable pub pop_until_heading : World → World
pop_until_heading w = record w { stack = cut_through is_heading (names_of w) w.stack }

-- pops without notifying the sink, up to and including the newest cell
unfoldable pub pop_until_cell : World → World
pop_until_cell w = record w { stack = cut_through is_cell (names_of w) w.stack }

-- "any other end tag": implied end tags except for the name, and then pops up to and including the newest element of
-- the name, if no special element is newer
unfoldable pub close_named : SinkChoices → List ℕ → World → World
close_named choices local w =
    if comes_before_special local (names_of w) then pop_until_named local (generate_implied_end_except choices local w) else w

-- implied end tags, if a `select` is in scope
unfoldable pub generate_implied_end_in_select : SinkChoices → World → World
generate_implied_end_in_select choices w =
    if in_scope (is_html_named (codes "select")) is_default_scope (names_of w) then generate_implied_end_tags choices w else w

-- an HTML element of one of these names
abbrev pub is_html_among : List (List ℕ) → QualName → Bool
is_html_among locals n = is_same_text n.ns html_namespace && is_one_of locals n.local

-- names of the special elements at which the search for a list item doesn't end
unfoldable pub passed_names : List (List ℕ)
passed_names = codes "address" ∷ codes "div" ∷ codes "p" ∷ []

abbrev pub ends_item_search : QualName → Bool
ends_item_search n = is_special n && not (is_html_among passed_names n)

-- the name of the newest of these elements, unless an element that ends the search is newer
abbrev pub newest_item : List (List ℕ) → List QualName → Option (List ℕ)
newest_item locals [] = None
newest_item locals (n ∷ ns) = if is_html_among locals n then Some n.local else (if ends_item_search n then None else newest_item locals ns)

abbrev pub close_item : SinkChoices → Option (List ℕ) → World → World
close_item choices None w = w
close_item choices (Some local) w = pop_until_named local (generate_implied_end_except choices local w)

-- the open list item is closed: implied end tags except for its name, and then pops up to and including it
unfoldable pub close_list_item : SinkChoices → List (List ℕ) → World → World
close_list_item choices locals w = close_item choices (newest_item locals (names_of w)) w

-- an option that was closed is copied into `selectedcontent` elements
unfoldable pub copy_closed_option : SinkChoices → ℕ → World → World
copy_closed_option choices option w = with_forest (if is_in option w.stack then w.forest else choices.after_option_copy w.forest option) w
