-- The search for the element that an end tag closes, one open element after the other.
use Rattle.std.proofs.Common.{◌≡◌, ◌+◌, ◌-◌, ◌<◌, ◌≤◌, ℕ, zero, suc, Bool, true, false, cond, List, [], ◌∷◌, length, map, reverse, take, refl, ap, sym, ◌∙◌, arith}
use Rattle.std.proofs.lemmas.List.{length-map}
use Rattle.h5_names.specs.declared.qualified.QualName.{QualName}
use Rattle.h5_interface.specs.Seen.{Seen}
use Rattle.h5_builder_spec.specs.reset.Roles.{is_html_element}
use Rattle.h5_builder_spec.specs.stack.Scope.{cut_through}
use Rattle.h5_builder_spec.specs.stack.Order.{but_first}
use Rattle.h5_builder_spec.specs.insertion.Foreign.{is_named_in_any_case}
use Rattle.h5_builder_spec.specs.modes.ForeignContent.{Finds, ReachesHtml, ReachesRoot, search_end}
use Rattle.h5_builder_spec.specs.World.{name_in}
use Rattle.h5_builder_state.specs.View.{elements_of, names_under, open_node, stack_under}
use Rattle.h5_builder_state.specs.declared.open_element.OpenElement.{OpenElement}
use Rattle.h5_builder_state.specs.declared.state.State.{State}

module _ (local : List ℕ) where
  abbrev pub is : QualName → Bool
  is = is_named_in_any_case local

  -- one element, above others
  pub search_step : (n : QualName) (ns : List QualName) → 0 < length ns → search_end local (n ∷ ns) ≡ cond (is_html_element n) ReachesHtml (cond (is n) Finds (search_end local ns))
  search_step n [] h = absurd (omega arith)
  search_step n (m ∷ ns) h = refl

  pub search_html : (n : QualName) (ns : List QualName) → 0 < length ns → is_html_element n ≡ true → search_end local (n ∷ ns) ≡ ReachesHtml
  search_html n ns h e = search_step n ns h ∙ ap (λ b. cond b ReachesHtml (cond (is n) Finds (search_end local ns))) e

  pub search_found : (n : QualName) (ns : List QualName) → 0 < length ns → is_html_element n ≡ false → is n ≡ true → search_end local (n ∷ ns) ≡ Finds
  search_found n ns h e k =
      search_step n ns h ∙ ap (λ b. cond b ReachesHtml (cond (is n) Finds (search_end local ns))) e ∙ ap (λ b. cond b Finds (search_end local ns)) k

  pub search_later : (n : QualName) (ns : List QualName) → 0 < length ns → is_html_element n ≡ false → is n ≡ false → search_end local (n ∷ ns) ≡ search_end local ns
  search_later n ns h e k =
      search_step n ns h ∙ ap (λ b. cond b ReachesHtml (cond (is n) Finds (search_end local ns))) e ∙ ap (λ b. cond b Finds (search_end local ns)) k

  -- the root
  pub search_root : {S H : Type 0} (sees : S → Seen) (node : H → ℕ) (sink : S) (state : State H) (count : ℕ) → count ≤ 1 → search_end local (names_under sees node sink state count) ≡ ReachesRoot
  unfolding names_under
  search_root {S} {H} sees node sink state count h = at (elements_of state) count h
    where
      at : (items : List (OpenElement H)) (k : ℕ) → k ≤ 1 → search_end local (map (name_in (sees sink).forest) (reverse (map (open_node node) (take k items)))) ≡ ReachesRoot
      at items zero j = refl
      at [] (suc zero) j = refl
      at (x ∷ items) (suc zero) j = refl
      at items (suc (suc k)) j = absurd (omega arith)

-- as many names as elements
pub names_under_length : {S H : Type 0} (sees : S → Seen) (node : H → ℕ) (sink : S) (state : State H) (count : ℕ) → length (names_under sees node sink state count) ≡ length (stack_under node state count)
unfolding names_under stack_under
names_under_length sees node sink state count = length-map (reverse (map (open_node node) (take count (elements_of state)))) (name_in (sees sink).forest)

-- one step of the walk, down to a place
module _ {S H : Type 0} (sees : S → Seen) (node : H → ℕ) (sink : S) (state : State H) (local : List ℕ) (place : ℕ) (n : QualName)
    (more : 1 < place) (first : names_under sees node sink state (place - 1 + 1) ≡ n ∷ names_under sees node sink state (place - 1)) (count : length (stack_under node state (place - 1)) ≡ place - 1) where
  abbrev pub older : List QualName
  older = names_under sees node sink state (place - 1)

  one_more : place - 1 + 1 ≡ place
  one_more = omega arith

  here : names_under sees node sink state place ≡ n ∷ older
  here = ap (names_under sees node sink state) (sym one_more) ∙ first

  some : 0 < length older
  some = omega (arith, names_under_length sees node sink state (place - 1))

  pub walk_html : is_html_element n ≡ true → search_end local (names_under sees node sink state place) ≡ ReachesHtml
  walk_html e = ap (search_end local) here ∙ search_html local n older some e

  pub walk_found : is_html_element n ≡ false → is_named_in_any_case local n ≡ true → search_end local (names_under sees node sink state place) ≡ Finds
  walk_found e k = ap (search_end local) here ∙ search_found local n older some e k

  pub walk_later : is_html_element n ≡ false → is_named_in_any_case local n ≡ false → search_end local (names_under sees node sink state place) ≡ search_end local older
  walk_later e k = ap (search_end local) here ∙ search_later local n older some e k

  pub walk_cut : but_first (stack_under node state (place - 1 + 1)) ≡ stack_under node state (place - 1) → is_named_in_any_case local n ≡ false
      → cut_through (is_named_in_any_case local) (names_under sees node sink state place) (stack_under node state place) ≡ cut_through (is_named_in_any_case local) older (stack_under node state (place - 1))
  walk_cut e k =
      ap (λ ns. cut_through (is_named_in_any_case local) ns (stack_under node state place)) here
      ∙ ap (λ b. cond b (but_first (stack_under node state place)) (cut_through (is_named_in_any_case local) older (but_first (stack_under node state place)))) k
      ∙ ap (λ p. cut_through (is_named_in_any_case local) older (but_first (stack_under node state p))) (sym one_more)
      ∙ ap (cut_through (is_named_in_any_case local) older) e
