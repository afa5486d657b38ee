-- Changes that leave all but the forest, the stack of open elements and the list of active formatting elements.
use Rattle.std.proofs.Common.{◌≡◌, ℕ, zero, suc, Bool, true, false, cond, not, ◌&&◌, List, [], ◌∷◌, codes, Option, Some, None, refl, ap, ◌∙◌}
use Rattle.std.specs.List.{list_any}
use Rattle.h5_names.specs.AttributeText.{AttributeText}
use Rattle.h5_names.specs.declared.qualified.QualName.{QualName}
use Rattle.h5_token.specs.TokenText.{TagText}
use Rattle.h5_interface.specs.Changes.{mark}
use Rattle.h5_interface.specs.SinkChoices.{SinkChoices}
use Rattle.h5_tables.specs.TagSets.{is_default_scope, is_heading, is_html_named, is_implied, is_special, is_thorough_implied}
use Rattle.h5_builder_spec.specs.formatting.Adoption.{FormattingElement, FurthestBlock, furthest_block, newer_than, newest_named, without_node}
use Rattle.h5_builder_spec.specs.formatting.FormattingList.{ElementEntry, Entry, MarkerEntry, closed_front, nodes_of, without_entry}
use Rattle.h5_builder_spec.specs.stack.Order.{is_in}
use Rattle.h5_builder_spec.specs.stack.Scope.{comes_before_special, first_passes, has_p_in_button_scope, in_scope, is_implied_but}
use Rattle.h5_builder_spec.specs.formatting.AdoptionAgency.{adopt, adopt_at, adopt_by, adopt_within, adoption_agency, close_misnested_a, handle_misnested_a_tags, handle_misnested_nobr_tags, remove_from_stack, unlist_and_remove}
use Rattle.h5_builder_spec.specs.Changes.{generate_implied_end_except, insert_element, pop, pop_until_current, pop_until_named, pop_while, remove_body}
use Rattle.h5_builder_spec.specs.stack.Closing.{close_item, close_list_item, close_named, close_p_element, close_p_element_in_button_scope, generate_implied_end_tags, generate_implied_end_in_select, generate_implied_end_thoroughly, newest_item, pop_heading, pop_until_cell, pop_until_heading}
use Rattle.h5_builder_spec.specs.formatting.Formatting.{clear_active_formatting_to_marker, create_formatting_element, insert_anew, insert_for, insert_marker, reconstruct_active_formatting_elements}
use Rattle.h5_builder_spec.specs.World.{World, current, name_in, names_of}

-- v is w except for these three
abbrev pub OnlyTree : World → World → Type 0
OnlyTree w v = v ≡ record w { forest = v.forest; stack = v.stack; formatting = v.formatting }

pub tree_then : (w v u : World) → OnlyTree w v → OnlyTree v u → OnlyTree w u
tree_then w v u e f = f ∙ ap (λ (x : World). record x { forest = u.forest; stack = u.stack; formatting = u.formatting }) e

-- one of two worlds
tree_if : (w v : World) (b : Bool) → OnlyTree w v → OnlyTree w (cond b v w)
tree_if w v true e = e
tree_if w v false e = refl

pub tree_pop : (choices : SinkChoices) (w : World) → OnlyTree w (pop choices w)
unfolding pop
tree_pop choices w = refl

pub tree_while : (choices : SinkChoices) (p : QualName → Bool) (ns : List QualName) (w : World) → OnlyTree w (pop_while choices p ns w)
tree_while choices p [] w = refl
tree_while choices p (n ∷ ns) w =
    tree_if w (pop_while choices p ns (pop choices w)) (p n) (tree_then w (pop choices w) (pop_while choices p ns (pop choices w)) (tree_pop choices w) (tree_while choices p ns (pop choices w)))

pub tree_implied_except : (choices : SinkChoices) (local : List ℕ) (w : World) → OnlyTree w (generate_implied_end_except choices local w)
unfolding generate_implied_end_except
tree_implied_except choices local w = tree_while choices (is_implied_but local) (names_of w) w

pub tree_until : (local : List ℕ) (w : World) → OnlyTree w (pop_until_named local w)
unfolding pop_until_named
tree_until local w = refl

pub tree_implied : (choices : SinkChoices) (w : World) → OnlyTree w (generate_implied_end_tags choices w)
unfolding generate_implied_end_tags
tree_implied choices w = tree_while choices is_implied (names_of w) w

pub tree_implied_thoroughly : (choices : SinkChoices) (w : World) → OnlyTree w (generate_implied_end_thoroughly choices w)
unfolding generate_implied_end_thoroughly
tree_implied_thoroughly choices w = tree_while choices is_thorough_implied (names_of w) w

pub tree_close_p : (choices : SinkChoices) (w : World) → OnlyTree w (close_p_element choices w)
unfolding close_p_element
tree_close_p choices w =
    let v = generate_implied_end_except choices (codes "p") w in
    tree_then w v (pop_until_named (codes "p") v) (tree_implied_except choices (codes "p") w) (tree_until (codes "p") v)

pub tree_close_p_in_scope : (choices : SinkChoices) (w : World) → OnlyTree w (close_p_element_in_button_scope choices w)
unfolding close_p_element_in_button_scope
tree_close_p_in_scope choices w = tree_if w (close_p_element choices w) (has_p_in_button_scope (names_of w)) (tree_close_p choices w)

pub tree_pop_heading : (choices : SinkChoices) (w : World) → OnlyTree w (pop_heading choices w)
unfolding pop_heading
tree_pop_heading choices w = tree_if w (pop choices w) (first_passes is_heading (names_of w)) (tree_pop choices w)

pub tree_until_heading : (w : World) → OnlyTree w (pop_until_heading w)
unfolding pop_until_heading
tree_until_heading w = refl

pub tree_until_cell : (w : World) → OnlyTree w (pop_until_cell w)
unfolding pop_until_cell
tree_until_cell w = refl

pub tree_until_current : (is : QualName → Bool) (w : World) → OnlyTree w (pop_until_current is w)
unfolding pop_until_current
tree_until_current is w = refl

-- markers
pub tree_marker : (w : World) → OnlyTree w (insert_marker w)
unfolding insert_marker
tree_marker w = refl

pub tree_cleared : (w : World) → OnlyTree w (clear_active_formatting_to_marker w)
unfolding clear_active_formatting_to_marker
tree_cleared w = refl

-- the body is taken away
pub tree_remove_body : (w : World) → OnlyTree w (remove_body w)
unfolding remove_body
tree_remove_body w = refl

pub tree_close_named : (choices : SinkChoices) (local : List ℕ) (w : World) → OnlyTree w (close_named choices local w)
unfolding close_named
tree_close_named choices local w =
    let v = generate_implied_end_except choices local w in
    tree_if w (pop_until_named local v) (comes_before_special local (names_of w)) (tree_then w v (pop_until_named local v) (tree_implied_except choices local w) (tree_until local v))

pub tree_insert : (choices : SinkChoices) (local : List ℕ) (attrs : List AttributeText) (duplicates : Bool) (w : World) → OnlyTree w (insert_element choices local attrs duplicates w)
unfolding insert_element
tree_insert choices local attrs duplicates w = refl

pub tree_insert_for : (choices : SinkChoices) (tag : TagText) (w : World) → OnlyTree w (insert_for choices tag w)
unfolding insert_element
tree_insert_for choices tag w = refl

pub tree_format : (choices : SinkChoices) (tag : TagText) (w : World) → OnlyTree w (create_formatting_element choices tag w)
unfolding create_formatting_element insert_element
tree_format choices tag w = refl

pub tree_anew : (choices : SinkChoices) (l : List Entry) (w : World) → OnlyTree w (insert_anew choices l w)
tree_anew choices [] w = refl
tree_anew choices (MarkerEntry ∷ l) w = tree_anew choices l w
tree_anew choices (ElementEntry n tag ∷ l) w =
    let v = insert_anew choices l w in
    tree_then w v (insert_for choices tag v) (tree_anew choices l w) (tree_insert_for choices tag v)

pub tree_reconstruct : (choices : SinkChoices) (w : World) → OnlyTree w (reconstruct_active_formatting_elements choices w)
unfolding reconstruct_active_formatting_elements
tree_reconstruct choices w =
    let v = insert_anew choices (closed_front w.stack w.formatting) w in
    let u = reconstruct_active_formatting_elements choices w in
    tree_then w v u (tree_anew choices (closed_front w.stack w.formatting) w) refl

-- the adoption agency
tree_adopt_at : (again : World → World) (choices : SinkChoices) (f : FormattingElement) (k : Option FurthestBlock) (w : World) → ((v : World) → OnlyTree v (again v)) → OnlyTree w (adopt_at again choices f k w)
tree_adopt_at again choices f None w h = refl
tree_adopt_at again choices f (Some k) w h = tree_then w (adopt choices f k w) (again (adopt choices f k w)) refl (h (adopt choices f k w))

tree_adopt_by : (again : World → World) (choices : SinkChoices) (name : List ℕ) (o : Option FormattingElement) (w : World) → ((v : World) → OnlyTree v (again v)) → OnlyTree w (adopt_by again choices name o w)
tree_adopt_by again choices name None w h = tree_close_named choices name w
tree_adopt_by again choices name (Some f) w h =
    let newer = newer_than f.node w.stack in
    at (not (is_in f.node w.stack)) (list_any (λ n. is_default_scope (name_in w.forest n)) newer)
    (adopt_at again choices f (furthest_block (λ n. is_special (name_in w.forest n)) newer) w)
    (tree_adopt_at again choices f (furthest_block (λ n. is_special (name_in w.forest n)) newer) w h)
  where
    at : (a b : Bool) (u : World) → OnlyTree w u → OnlyTree w (cond a (record w { formatting = without_entry f.node w.formatting }) (cond b w u))
    at true b u e = refl
    at false true u e = refl
    at false false u e = e

tree_adopt_within : (n : ℕ) (choices : SinkChoices) (name : List ℕ) (w : World) → OnlyTree w (adopt_within n choices name w)
tree_adopt_within zero choices name w = refl
tree_adopt_within (suc n) choices name w = tree_adopt_by (adopt_within n choices name) choices name (newest_named name w.formatting) w (tree_adopt_within n choices name)

pub tree_adoption : (choices : SinkChoices) (name : List ℕ) (w : World) → OnlyTree w (adoption_agency choices name w)
unfolding adoption_agency
tree_adoption choices name w =
    at (first_passes (is_html_named name) (names_of w) && not (is_in (current w) (nodes_of w.formatting)))
  where
    at : (b : Bool) → OnlyTree w (cond b (pop choices w) (adopt_within 8 choices name w))
    at true = tree_pop choices w
    at false = tree_adopt_within 8 choices name w

pub tree_remove : (choices : SinkChoices) (n : ℕ) (w : World) → OnlyTree w (remove_from_stack choices n w)
unfolding remove_from_stack
tree_remove choices n w =
    tree_if w (record w { forest = mark (choices.marks_after_pop w.forest n) w.forest; stack = without_node n w.stack }) (is_in n w.stack) refl

tree_misnested_a : (choices : SinkChoices) (o : Option FormattingElement) (w : World) → OnlyTree w (close_misnested_a choices o w)
tree_misnested_a choices None w = refl
tree_misnested_a choices (Some f) w =
    let v = adoption_agency choices (codes "a") w in
    tree_then w v (unlist_and_remove choices f.node v) (tree_adoption choices (codes "a") w) (tree_then v (record v { formatting = without_entry f.node v.formatting }) (unlist_and_remove choices f.node v) refl
    (tree_remove choices f.node (record v { formatting = without_entry f.node v.formatting })))

pub tree_misnested_a_tags : (choices : SinkChoices) (w : World) → OnlyTree w (handle_misnested_a_tags choices w)
unfolding handle_misnested_a_tags
tree_misnested_a_tags choices w = tree_misnested_a choices (newest_named (codes "a") w.formatting) w

pub tree_misnested_nobr_tags : (choices : SinkChoices) (w : World) → OnlyTree w (handle_misnested_nobr_tags choices w)
unfolding handle_misnested_nobr_tags
tree_misnested_nobr_tags choices w =
    let v = adoption_agency choices (codes "nobr") w in
    let u = reconstruct_active_formatting_elements choices v in
    tree_if w u (in_scope (is_html_named (codes "nobr")) is_default_scope (names_of w)) (tree_then w v u (tree_adoption choices (codes "nobr") w) (tree_reconstruct choices v))

pub tree_in_select : (choices : SinkChoices) (w : World) → OnlyTree w (generate_implied_end_in_select choices w)
unfolding generate_implied_end_in_select
tree_in_select choices w = tree_if w (generate_implied_end_tags choices w) (in_scope (is_html_named (codes "select")) is_default_scope (names_of w)) (tree_implied choices w)

tree_item : (choices : SinkChoices) (o : Option (List ℕ)) (w : World) → OnlyTree w (close_item choices o w)
tree_item choices None w = refl
tree_item choices (Some local) w =
    let v = generate_implied_end_except choices local w in tree_then w v (pop_until_named local v) (tree_implied_except choices local w) (tree_until local v)

pub tree_list_item : (choices : SinkChoices) (locals : List (List ℕ)) (w : World) → OnlyTree w (close_list_item choices locals w)
unfolding close_list_item
tree_list_item choices locals w = tree_item choices (newest_item locals (names_of w)) w
