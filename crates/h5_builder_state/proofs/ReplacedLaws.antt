-- Open elements that replace others.
use Rattle.std.proofs.Common.{◌≡◌, ◌+◌, ◌<◌, ◌≤◌, ℕ, Option, Some, List, [], ◌∷◌, ◌++◌, drop, length, map, reverse, set, take, refl, ap, sym, subst, ◌∙◌, inl, inr, arith}
use Rattle.std.proofs.lemmas.List.{drop-set-lt, length-set, map-append, map-set, reverse-append, reverse-reverse, take-set-le, take_more_set}
use Rattle.std.proofs.lemmas.Simd.{map-map}
use Rattle.h5_interface.specs.Forest.{Forest}
use Rattle.h5_builder_spec.specs.World.{name_in}
use Rattle.h5_builder_spec.specs.stack.Order.{IsIn}
use Rattle.h5_builder_spec.proofs.entries.PairLaws.{in_left, in_right}
use Rattle.h5_builder_state.specs.Numbered.{Numbered, numbers, one_of, values}
use Rattle.h5_builder_state.specs.Numbers.{name_number}
use Rattle.h5_builder_state.specs.Replaced.{AreNumbered, IsPut, StayNumbered, names_in}
use Rattle.h5_builder_state.specs.Stamps.{OpenStamp, stamp_of}
use Rattle.h5_builder_state.specs.Summaries.{summaries, summary_of}
use Rattle.h5_builder_state.specs.View.{elements_of, open_node, stack_over, stack_under}
use Rattle.h5_builder_state.specs.declared.name_numbers.NameNumbers.{NameNumbers}
use Rattle.h5_builder_state.specs.declared.open_element.OpenElement.{OpenElement}
use Rattle.h5_builder_state.specs.declared.open_element.OpenElements.{OpenElements}
use Rattle.h5_builder_state.specs.declared.state.State.{State}
use Rattle.h5_builder_state.proofs.RenewLaws.{kept_more, values_set}
use Rattle.h5_builder_state.proofs.SummaryLaws.{kept, names, numbers_grow}

-- numbers and nodes, the oldest first
reversed : {X Y : Type 0} (g : X → Y) (xs : List X) → map g (reverse xs) ≡ reverse (map g xs)
reversed g [] = refl
reversed g (x ∷ xs) = ap (map g) (reverse-append (x ∷ []) xs) ∙ map-append g (reverse xs) (x ∷ []) ∙ ap (λ z. z ++ g x ∷ []) (reversed g xs) ∙ sym (reverse-append (g x ∷ []) (map g xs))

numbered_by : {H : Type 0} → (H → ℕ) → Forest → NameNumbers → List (OpenElement H) → List (Option ℕ)
numbered_by {H} node f N xs = map (λ (x : OpenElement H). name_number N (name_in f (node x.handle))) xs

in_order : {H : Type 0} (node : H → ℕ) (f : Forest) (N : NameNumbers) (xs : List (OpenElement H)) → map (name_number N) (names_in node f xs) ≡ reverse (numbered_by node f N xs)
unfolding numbered_by
in_order {H} node f N xs =
    ap (λ z. map (name_number N) (map (name_in f) z)) (sym (reversed (open_node node) xs)) ∙ ap (map (name_number N)) (map-map (name_in f) (open_node node) (reverse xs))
    ∙ map-map (name_number N) (λ (x : OpenElement H). name_in f (node x.handle)) (reverse xs) ∙ reversed (λ (x : OpenElement H). name_number N (name_in f (node x.handle))) xs

module _ {H : Type 0} {stamp : ℕ} (node : H → ℕ) (f : Forest) (old new : OpenElements H) (n place : ℕ) (inside : place < length (values old.elements)) (p : IsPut node f n place stamp old new) where
  all_put : values new.elements ≡ set (values old.elements) place p.element
  all_put = values_set old.elements new.elements place p.number p.element p.elements

  pub put_low : map (open_node node) (take (place + 1) (values new.elements)) ≡ map (open_node node) (take place (values old.elements)) ++ n ∷ []
  put_low =
      ap (λ xs. map (open_node node) (take (place + 1) xs)) all_put ∙ ap (map (open_node node)) (take_more_set (values old.elements) place p.element inside)
      ∙ map-append (open_node node) (take place (values old.elements)) (p.element ∷ []) ∙ ap (λ m. map (open_node node) (take place (values old.elements)) ++ m ∷ []) p.here

  pub put_stamp : map (λ (o : OpenElement H). stamp_of node o) (take (place + 1) (values new.elements)) ≡ map (λ (o : OpenElement H). stamp_of node o) (take place (values old.elements)) ++ record { node = n; stamp = stamp } ∷ []
  put_stamp =
      let view = λ (o : OpenElement H). stamp_of node o in
      let here : view p.element ≡ record { node = n; stamp = stamp } = ap (λ (m : ℕ). (let s : OpenStamp = record { node = m; stamp = p.element.stamp } in s)) p.here ∙ ap (λ (k : ℕ). (let s : OpenStamp = record { node = n; stamp = k } in s)) p.stamped in
      ap (λ xs. map view (take (place + 1) xs)) all_put ∙ ap (map view) (take_more_set (values old.elements) place p.element inside)
      ∙ map-append view (take place (values old.elements)) (p.element ∷ []) ∙ ap (λ m. map view (take place (values old.elements)) ++ m ∷ []) here

  pub put_high : drop (place + 1) (values new.elements) ≡ drop (place + 1) (values old.elements)
  put_high = ap (drop (place + 1)) all_put ∙ drop-set-lt (place + 1) (values old.elements) place p.element (omega arith)

  pub put_kept : kept node f (take place (values old.elements)) ≡ summaries (names node f (take place (values old.elements))) → kept node f (take (place + 1) (values new.elements)) ≡ summaries (names node f (take (place + 1) (values new.elements)))
  put_kept h =
      subst (λ xs. kept node f (take (place + 1) xs) ≡ summaries (names node f (take (place + 1) xs))) (sym all_put)
      (kept_more node f (values old.elements) place p.element inside (p.summary ∙ ap (λ m. summary_of (name_in f m) (names_in node f (take place (values old.elements)))) (sym p.here)) h)

  pub put_older : (first : ℕ) → first ≤ place → take first new.elements ≡ take first old.elements
  put_older first h = ap (take first) p.elements ∙ take-set-le first old.elements place (one_of p.number p.element) h

  pub put_count : length new.elements ≡ length old.elements
  put_count = ap (λ (z : List (Numbered (OpenElement H))). length z) p.elements ∙ length-set old.elements place (one_of p.number p.element)

  pub put_numbered : StayNumbered old.numbers new.numbers → AreNumbered node f old → AreNumbered node f new
  unfolding numbered_by
  put_numbered stay h =
      let grown = numbers_grow old.numbers new.numbers (reverse (numbers old.elements)) (names_in node f (values old.elements)) stay h in
      let all : reverse (map Some (numbers old.elements)) ≡ reverse (numbered_by node f new.numbers (values old.elements)) = sym (reversed (λ (k : ℕ). Some k) (numbers old.elements)) ∙ grown ∙ in_order node f new.numbers (values old.elements) in
      let same : map Some (numbers old.elements) ≡ numbered_by node f new.numbers (values old.elements) =
      sym (reverse-reverse (map Some (numbers old.elements))) ∙ ap reverse all ∙ reverse-reverse (numbered_by node f new.numbers (values old.elements)) in
      let one : Some p.number ≡ name_number new.numbers (name_in f (node p.element.handle)) = sym p.numbered ∙ ap (λ m. name_number new.numbers (name_in f m)) (sym p.here) in
      let more : map Some (numbers new.elements) ≡ numbered_by node f new.numbers (values new.elements) =
      ap (map Some) (ap (λ (z : List (Numbered (OpenElement H))). numbers z) p.elements ∙ map-set (λ (o : Numbered (OpenElement H)). o.number) old.elements place (one_of p.number p.element))
      ∙ map-set (λ (k : ℕ). Some k) (numbers old.elements) place p.number ∙ ap (λ z. set z place (Some p.number)) same ∙ ap (set (numbered_by node f new.numbers (values old.elements)) place) one
      ∙ sym (map-set (λ (x : OpenElement H). name_number new.numbers (name_in f (node x.handle))) (values old.elements) place p.element) ∙ ap (λ xs. numbered_by node f new.numbers xs) (sym all_put) in
      reversed (λ (k : ℕ). Some k) (numbers new.elements) ∙ ap reverse more ∙ sym (in_order node f new.numbers (values new.elements))

-- the stack then
pub stack_put : {H : Type 0} (node : H → ℕ) (old new : State H) (place end : ℕ) (ns : List ℕ) → map (open_node node) (elements_of new) ≡ map (open_node node) (take place (elements_of old)) ++ (ns ++ map (open_node node) (drop end (elements_of old)))
    → reverse (map (open_node node) (elements_of new)) ≡ (stack_over node old end ++ reverse ns) ++ stack_under node old place
unfolding stack_over stack_under
stack_put node old new place end ns e =
    let low = map (open_node node) (take place (elements_of old)) in
    let high = map (open_node node) (drop end (elements_of old)) in
    ap reverse e ∙ reverse-append low (ns ++ high) ∙ ap (λ z. z ++ reverse low) (reverse-append ns high)

-- whatever the order
pub in_reverse : (n : ℕ) (ns : List ℕ) → IsIn n ns → IsIn n (reverse ns)
in_reverse n [] h = absurd h
in_reverse n (m ∷ ns) h = subst (IsIn n) (sym (reverse-append (m ∷ []) ns)) (elim h [
  | inl e ↦ in_right n (reverse ns) (m ∷ []) (inl e)
  | inr i ↦ in_left n (reverse ns) (m ∷ []) (in_reverse n ns i)
])
