-- An open element is found among those that share the number of its name.
use Rattle.std.proofs.Common.{◌≡◌, ◌≢◌, ◌+◌, ◌<◌, ◌≤◌, ℕ, zero, suc, true, false, cond, List, [], ◌∷◌, Some, None, get_or, length, map, reverse, take, inl, inr, refl, ap, sym, subst, ◌∙◌, arith}
use Rattle.std.specs.Prelude.{◌==◌}
use Rattle.std.proofs.lemmas.Bool.{cases_eq, eqb-false, ne_eqb}
use Rattle.std.proofs.lemmas.List.{length-reverse, length-take-le, reverse-append, take_all, take_more}
use Rattle.std.proofs.lemmas.Option.{same_Some}
use Rattle.h5_interface.specs.Forest.{Forest}
use Rattle.h5_builder_spec.specs.formatting.Adoption.{older_than}
use Rattle.h5_builder_spec.specs.stack.Order.{IsIn, is_in}
use Rattle.h5_builder_spec.specs.World.{name_in}
use Rattle.h5_builder_spec.proofs.entries.PairLaws.{is_in_telling, is_in_true}
use Rattle.h5_builder_state.specs.Numbered.{newest_of, newest_under, numbers, values}
use Rattle.h5_builder_state.proofs.ItemLaws.{length-numbers, length-values}
use Rattle.h5_builder_state.proofs.PlaceLaws.{newest_here, newest_other}
use Rattle.h5_builder_state.specs.Numbers.{name_number}
use Rattle.h5_builder_state.specs.Summaries.{IsKept}
use Rattle.h5_builder_state.specs.View.{open_node}
use Rattle.h5_builder_state.specs.declared.open_element.OpenElement.{OpenElement}
use Rattle.h5_builder_state.specs.declared.open_element.OpenElements.{OpenElements}
use Rattle.h5_builder_state.proofs.FoundLaws.{found_first}
use Rattle.h5_builder_state.proofs.StackLaws.{stack_step}
use Rattle.h5_builder_state.proofs.SummaryLaws.{names, number_of_place}
use Rattle.h5_builder_state.proofs.WalkLaws.{there}

-- another element is passed over
in_passed : (n m : ℕ) (s : List ℕ) → m ≢ n → is_in n (m ∷ s) ≡ is_in n s
in_passed n m s other = ap (λ b. cond b true (is_in n s)) (ne_eqb n m (λ e. other (sym e)))

older_passed : (n m : ℕ) (s : List ℕ) → m ≢ n → older_than n (m ∷ s) ≡ older_than n s
older_passed n m s other = ap (λ b. cond b s (older_than n s)) (ne_eqb m n other)

-- the nodes of the n oldest open elements, the newest first
abbrev pub under : {H : Type 0} → (H → ℕ) → OpenElements H → ℕ → List ℕ
under node open_elems count = reverse (map (open_node node) (take count (values open_elems.elements)))

-- how far a walk over the open elements of a number has come: of a stack all that is above the next one is passed
pub record Walks {H : Type 0} (node : H → ℕ) (open_elems : OpenElements H) (n number : ℕ) (s : List ℕ) (next : ℕ) : Type 0 where
  pub within : next ≤ length open_elems.elements
  pub has : (k : ℕ) → next ≡ k + 1 → get_or (numbers open_elems.elements) k 0 ≡ number
  pub left : is_in n (under node open_elems next) ≡ is_in n s
  pub older : older_than n (under node open_elems next) ≡ older_than n s

-- the next one is the element that is looked for
pub walk_finds : {H : Type 0} {node : H → ℕ} {open_elems : OpenElements H} {n number : ℕ} (s : List ℕ) (next place m : ℕ) → Walks node open_elems n number s next → next ≡ place + 1
    → under node open_elems (place + 1) ≡ m ∷ under node open_elems place → length (under node open_elems place) ≡ place → (m == n) ≡ true → IsIn n s × (place ≡ length (older_than n s))
walk_finds {H} {node} {open_elems} {n} s next place m walk up e count same =
    let found = found_first n m (under node open_elems place) (under node open_elems next) (ap (λ j. under node open_elems j) up ∙ e) same in
    (is_in_true n s (sym walk.left ∙ is_in_telling n (under node open_elems next) found.0), sym count ∙ ap (λ z. length z) (sym found.1 ∙ walk.older))

module _ {H : Type 0} (node : H → ℕ) (f : Forest) (open_elems : OpenElements H) (kept : IsKept open_elems (names node f (values open_elems.elements))) (n : ℕ) where
  -- the number of an open element is that of its name
  its_number : (k : ℕ) (x : OpenElement H) → k < length open_elems.elements → x ≡ get_or (values open_elems.elements) k x
      → name_number open_elems.numbers (name_in f (node x.handle)) ≡ Some (get_or (numbers open_elems.elements) k 0)
  its_number k x h e =
      let is_there : k < length (values open_elems.elements) = omega (arith, h, length-values open_elems.elements) in
      number_of_place node f open_elems k (name_in f (node x.handle)) (names node f (take k (values open_elems.elements))) is_there
      (ap (map (name_in f)) (stack_step (open_node node) (values open_elems.elements) k x is_there e)) kept

  module _ (number : ℕ) (is : name_number open_elems.numbers (name_in f n) ≡ Some number) where
    -- an element of another number is another one
    is_other : (k : ℕ) (x : OpenElement H) → k < length open_elems.elements → x ≡ get_or (values open_elems.elements) k x → get_or (numbers open_elems.elements) k 0 ≢ number → node x.handle ≢ n
    is_other k x h e other same =
        other (same_Some (get_or (numbers open_elems.elements) k 0) number (sym (its_number k x h e) ∙ ap (λ m. name_number open_elems.numbers (name_in f m)) same ∙ is))

    -- what is above the newest of the number is passed
    chain : (count next : ℕ) → next ≡ newest_under number open_elems.elements count → count ≤ length open_elems.elements → Walks node open_elems n number (under node open_elems count) next
    chain zero next e h = record {
      within = omega (arith, e);
      has = λ k i. absurd (omega (arith, e, i));
      left = ap (λ j. is_in n (under node open_elems j)) e;
      older = ap (λ j. older_than n (under node open_elems j)) e;
    }
    chain (suc k) next e h =
        let elements = values open_elems.elements in
        let ns = numbers open_elems.elements in
        let one_more : suc k ≡ k + 1 = omega arith in
        let is_there : k < length open_elems.elements = omega (arith, h) in
        let inside : k < length elements = omega (arith, h, length-values open_elems.elements) in
        let one = there elements k inside in
        let more : reverse (take (suc k) ns) ≡ get_or ns k 0 ∷ reverse (take k ns) =
        ap (λ j. reverse (take j ns)) one_more ∙ ap (λ z. reverse z) (take_more ns k 0 (omega (arith, h, length-numbers open_elems.elements))) ∙ reverse-append (take k ns) (get_or ns k 0 ∷ []) in
        let top : under node open_elems (suc k) ≡ node one.0.handle ∷ under node open_elems k =
        ap (λ j. under node open_elems j) one_more ∙ stack_step (open_node node) elements k one.0 inside one.1 in
        let newest : next ≡ newest_of number (get_or ns k 0 ∷ reverse (take k ns)) = e ∙ ap (λ z. newest_of number z) more in
        elim (cases_eq (get_or ns k 0) number) [
          | inl same ↦ (
              let older = reverse (take k ns) in
              let first = newest ∙ ap (λ m. newest_of number (m ∷ older)) same ∙ newest_here number older in
              let many : length older ≡ k = length-reverse (take k ns) ∙ length-take-le k ns (omega (arith, h, length-numbers open_elems.elements)) in
              let here : next ≡ suc k = omega (arith, first, many) in
              record {
                within = omega (arith, here, h);
                has = λ j i. let at : j ≡ k = omega (arith, here, i) in ap (λ z. get_or ns z 0) at ∙ same;
                left = ap (λ j. is_in n (under node open_elems j)) here;
                older = ap (λ j. older_than n (under node open_elems j)) here;
              })
          | inr differs ↦ (
              let other = is_other k one.0 is_there one.1 differs in
              let walk = chain k next (newest ∙ newest_other number (get_or ns k 0) (reverse (take k ns)) differs) (omega (arith, h)) in
              record {
                within = walk.within;
                has = walk.has;
                left = walk.left ∙ sym (ap (λ s. is_in n s) top ∙ in_passed n (node one.0.handle) (under node open_elems k) other);
                older = walk.older ∙ sym (ap (λ s. older_than n s) top ∙ older_passed n (node one.0.handle) (under node open_elems k) other);
              })
        ]

    pub walk_begins : (next : ℕ) → next ≡ newest_of number (reverse (numbers open_elems.elements)) → Walks node open_elems n number (reverse (map (open_node node) (values open_elems.elements))) next
    walk_begins next e =
        let many = length open_elems.elements in
        subst (λ xs. Walks node open_elems n number (reverse (map (open_node node) xs)) next) (take_all many (values open_elems.elements) (omega (arith, length-values open_elems.elements)))
        (chain many next (e ∙ ap (λ ns. newest_of number (reverse ns)) (sym (take_all many (numbers open_elems.elements) (omega (arith, length-numbers open_elems.elements))))) (omega arith))

    -- the next one is another element
    pub walk_goes_on : (s : List ℕ) (next place older m : ℕ) → Walks node open_elems n number s next → next ≡ place + 1 → older ≡ newest_under (get_or (numbers open_elems.elements) place 0) open_elems.elements place
        → under node open_elems (place + 1) ≡ m ∷ under node open_elems place → (m == n) ≡ false → Walks node open_elems n number s older
    walk_goes_on s next place older m walk up o e differs =
        let other = eqb-false m n differs in
        let below = chain place older (o ∙ ap (λ k. newest_under k open_elems.elements place) (walk.has place up)) (omega (arith, up, walk.within)) in
        record {
          within = below.within;
          has = below.has;
          left = below.left ∙ sym (ap (λ j. is_in n (under node open_elems j)) up ∙ ap (λ z. is_in n z) e ∙ in_passed n m (under node open_elems place) other) ∙ walk.left;
          older = below.older ∙ sym (ap (λ j. older_than n (under node open_elems j)) up ∙ ap (λ z. older_than n z) e ∙ older_passed n m (under node open_elems place) other) ∙ walk.older;
        }

  -- none is open if the name has no number
  none_under : (count : ℕ) → name_number open_elems.numbers (name_in f n) ≡ None → count ≤ length open_elems.elements → is_in n (under node open_elems count) ≡ false
  none_under zero none h = refl
  none_under (suc k) none h =
      let one_more : suc k ≡ k + 1 = omega arith in
      let is_there : k < length open_elems.elements = omega (arith, h) in
      let inside : k < length (values open_elems.elements) = omega (arith, h, length-values open_elems.elements) in
      let one = there (values open_elems.elements) k inside in
      let other : node one.0.handle ≢ n = λ same. let clash = sym (its_number k one.0 is_there one.1) ∙ ap (λ m. name_number open_elems.numbers (name_in f m)) same ∙ none in absurd (cc) in
      ap (λ j. is_in n (under node open_elems j)) one_more
      ∙ ap (λ s. is_in n s) (stack_step (open_node node) (values open_elems.elements) k one.0 inside one.1)
      ∙ in_passed n (node one.0.handle) (under node open_elems k) other
      ∙ none_under k none (omega (arith, h))

  pub none_open : name_number open_elems.numbers (name_in f n) ≡ None → is_in n (reverse (map (open_node node) (values open_elems.elements))) ≡ false
  none_open none =
      let many = length open_elems.elements in
      ap (λ xs. is_in n (reverse (map (open_node node) xs))) (sym (take_all many (values open_elems.elements) (omega (arith, length-values open_elems.elements)))) ∙ none_under many none (omega arith)
