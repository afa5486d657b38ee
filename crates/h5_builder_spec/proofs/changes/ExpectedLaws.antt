-- Whether an element that is closed is the current node by then: what the worlds on the way have for names.
use Rattle.std.proofs.Common.{◌≡◌, ◌<◌, ◌≤◌, ◌&&◌, ℕ, Bool, true, false, cond, not, List, [], ◌∷◌, None, codes, refl, ap, ◌∙◌, arith}
use Rattle.h5_names.specs.declared.qualified.QualName.{QualName}
use Rattle.h5_interface.specs.SinkChoices.{SinkChoices}
use Rattle.h5_tables.specs.TagSets.{is_html_named, is_implied}
use Rattle.h5_builder_spec.specs.Changes.{pop, pop_while}
use Rattle.h5_builder_spec.specs.formatting.Formatting.{insert_anew, names_anew, names_made_anew, reconstruct_active_formatting_elements}
use Rattle.h5_builder_spec.specs.formatting.FormattingList.{ElementEntry, Entry, MarkerEntry, closed_front}
use Rattle.h5_builder_spec.specs.formatting.FormattingNames.{html_name}
use Rattle.h5_builder_spec.specs.Sound.{Sound}
use Rattle.h5_builder_spec.specs.stack.Closing.{generate_implied_end_tags, newest_item}
use Rattle.h5_builder_spec.specs.stack.Expected.{first_is, is_expected, is_expected_item, is_expected_named, is_expected_node, is_expected_p, names_behind, names_behind_item, names_behind_named, names_behind_p}
use Rattle.h5_builder_spec.specs.stack.Order.{but_first}
use Rattle.h5_builder_spec.specs.stack.Scope.{cut_above, drop_while, first_passes, has_p_in_button_scope, is_implied_but}
use Rattle.h5_builder_spec.specs.World.{World, names_of}
use Rattle.h5_builder_spec.proofs.changes.FormattingLaws.{sound_anew}
use Rattle.h5_builder_spec.proofs.changes.NameLaws.{names-insert}
use Rattle.h5_builder_spec.proofs.changes.PopLaws.{pop_stack}

-- what stays open if none is closed
pub no_p_expected : (names : List QualName) → has_p_in_button_scope names ≡ false → is_expected_p names ≡ true
unfolding is_expected_p
no_p_expected names h = ap (λ b. cond b (is_expected (is_implied_but (codes "p")) (is_html_named (codes "p")) names) true) h

pub no_p_behind : (names : List QualName) → has_p_in_button_scope names ≡ false → names_behind_p names ≡ names
unfolding names_behind_p
no_p_behind names h = ap (λ b. cond b (names_behind (is_implied_but (codes "p")) (is_html_named (codes "p")) names) names) h

pub no_item_expected : (locals : List (List ℕ)) (names : List QualName) → newest_item locals names ≡ None → is_expected_item locals names ≡ true
unfolding is_expected_item
no_item_expected locals names h = ap (λ o. is_expected_named o names) h

pub no_item_behind : (locals : List (List ℕ)) (names : List QualName) → newest_item locals names ≡ None → names_behind_item locals names ≡ names
unfolding names_behind_item
no_item_behind locals names h = ap (λ o. names_behind_named o names) h

-- a current node that isn't popped before is the one that is expected
pub current_expected : (popped is : QualName → Bool) (name : QualName) (names : List QualName) → popped name ≡ false → is name ≡ true → is_expected popped is (name ∷ names) ≡ true
current_expected popped is name names stays itself = ap (λ b. first_passes is (cond b (drop_while popped names) (name ∷ names))) stays ∙ itself

-- the stack once implied end tags were generated
while_stack : (choices : SinkChoices) (p : QualName → Bool) (ns : List QualName) (w : World) → (pop_while choices p ns w).stack ≡ cut_above (λ n. not (p n)) ns w.stack
while_stack choices p [] w = refl
while_stack choices p (n ∷ ns) w =
    elim (p n) as (λ b. (cond b (pop_while choices p ns (pop choices w)) w).stack ≡ cond (not b) w.stack (cut_above (λ m. not (p m)) ns (but_first w.stack))) [
      | true ↦ while_stack choices p ns (pop choices w) ∙ ap (cut_above (λ m. not (p m)) ns) (pop_stack choices w)
      | false ↦ refl
    ]

pub first_implied : (choices : SinkChoices) (n : ℕ) (w : World) → first_is n (generate_implied_end_tags choices w).stack ≡ is_expected_node n (names_of w) w.stack
unfolding generate_implied_end_tags is_expected_node
first_implied choices n w = ap (first_is n) (while_stack choices is_implied (names_of w) w)

-- new elements come after those that were open
anew : (choices : SinkChoices) (l : List Entry) (w : World) → Sound w → names_of (insert_anew choices l w) ≡ names_made_anew l (names_of w)
anew choices [] w k = refl
anew choices (MarkerEntry ∷ l) w k = anew choices l w k
anew choices (ElementEntry n tag ∷ l) w k =
    names-insert choices tag.name tag.attrs tag.had_duplicate_attributes (insert_anew choices l w) (sound_anew choices l w k) ∙ ap (λ ns. html_name tag.name ∷ ns) (anew choices l w k)

pub names-reconstruct : (choices : SinkChoices) (w : World) → Sound w → names_of (reconstruct_active_formatting_elements choices w) ≡ names_anew w
unfolding reconstruct_active_formatting_elements names_anew names_of
names-reconstruct choices w k = anew choices (closed_front w.stack w.formatting) w k

-- two possible errors: unless neither is reported, the mark isn't 0 after the later one
pub told_either : (one other : Bool) (first last : ℕ) → (one ≡ false → 0 < first) → first ≤ last → (other ≡ false → 0 < last) → (one && other) ≡ false → 0 < last
told_either false other first last f rises g h = let k = f refl in omega arith
told_either true other first last f rises g h = g h
