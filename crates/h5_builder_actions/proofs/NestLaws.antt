-- Clones that are made one after the other.
use Rattle.std.proofs.Common.{◌≡◌, ◌+◌, ◌-◌, ◌<◌, ◌≤◌, ℕ, zero, suc, Bool, true, false, cond, List, [], ◌∷◌, ◌++◌, append_assoc, length, get_or, map, reverse, take, Option, Some, None, ◌⊎◌, inl, inr, refl, ap, sym, subst, ◌∙◌, arith}
use Rattle.std.proofs.lemmas.List.{append-nil}
use Rattle.h5_token.specs.TokenText.{TagText}
use Rattle.h5_interface.specs.Forest.{Forest}
use Rattle.h5_interface.specs.SinkChoices.{SinkChoices}
use Rattle.h5_builder_spec.specs.formatting.FormattingList.{Entry, nodes_of}
use Rattle.h5_builder_spec.specs.formatting.InnerLoop.{picked}
use Rattle.h5_builder_spec.specs.stack.Order.{Before, is_in}
use Rattle.h5_builder_spec.proofs.entries.PairLaws.{before_right}
use Rattle.h5_builder_spec.specs.formatting.AdoptionAgency.{Nest, nest, tag_in, wrapped}
use Rattle.h5_builder_state.specs.View.{elements_of, open_node, stack_under}
use Rattle.h5_builder_state.specs.declared.open_element.OpenElement.{OpenElement}
use Rattle.h5_builder_state.specs.declared.state.State.{State}
use Rattle.h5_builder_state.proofs.StackLaws.{stack_step}
use Rattle.h5_builder_actions.specs.Hanging.{open_between, with_clone_by, with_clones}
use Rattle.h5_builder_actions.proofs.CloneLaws.{tag_none, tag_some}
use Rattle.h5_builder_actions.proofs.OpenLaws.{stack_cut}

-- what comes of clones that are there and of those that are to be made
abbrev pub grown : SinkChoices → List Entry → List ℕ → Nest → Nest
grown choices l ms n = with_clones n.clones (nest choices l ms n.outermost n.forest)

pub grown_none : (choices : SinkChoices) (l : List Entry) (n : Nest) → grown choices l [] n ≡ n
grown_none choices l n = ap (λ c. record n { clones = c }) (append-nil n.clones)

-- one element more
pub grown_more : (choices : SinkChoices) (l : List Entry) (m k : ℕ) (ms : List ℕ) (n : Nest) → grown choices l (picked (suc k) l (m ∷ ms)) n ≡ grown choices l (picked k l ms) (with_clone_by choices (tag_in l m) n)
grown_more choices l m k ms n = at (is_in m (nodes_of l)) refl (tag_in l m) refl
  where
    at : (b : Bool) → is_in m (nodes_of l) ≡ b → (o : Option TagText) → tag_in l m ≡ o
        → grown choices l (cond b (m ∷ picked k l ms) (picked k l ms)) n ≡ grown choices l (picked k l ms) (with_clone_by choices o n)
    at true h None e = absurd (tag_some m l h e)
    at true h (Some tag) e =
        let f = n.forest in
        let outer = nest choices l (picked k l ms) (choices.fresh f) (wrapped choices (tag_in l m) n.outermost f) in
        ap (λ c. record { forest = outer.forest; clones = c; outermost = outer.outermost }) (sym (append_assoc n.clones (choices.fresh f ∷ []) outer.clones))
        ∙ ap (λ o. with_clones (n.clones ++ choices.fresh f ∷ []) (nest choices l (picked k l ms) (choices.fresh f) (wrapped choices o n.outermost f))) e
    at false h None e = refl
    at false h (Some tag) e = absurd (let none : None ≡ Some tag = sym (tag_none m l h) ∙ e in cc)

-- the elements between, one place more
place_of_items : {H : Type 0} (xs : List (OpenElement H)) (i : ℕ) → i < length xs → (x : OpenElement H) × (x ≡ get_or xs i x)
place_of_items [] i h = absurd (omega arith)
place_of_items (x ∷ xs) zero h = (x, refl)
place_of_items (x ∷ xs) (suc i) h = place_of_items xs i (omega (arith, h))

pub record Under {H : Type 0} (node : H → ℕ) (state : State H) (place : ℕ) : Type 0 where
  pub element : ℕ
  pub step : stack_under node state (place + 1) ≡ element ∷ stack_under node state place

pub under_more : {H : Type 0} (node : H → ℕ) (state : State H) (place : ℕ) → place < length (elements_of state) → Under node state place
unfolding stack_under
under_more node state place h =
    let x = place_of_items (elements_of state) place h in
    record { element = node x.0.handle; step = stack_step (open_node node) (elements_of state) place x.0 h x.1 }

pub between_more : {H : Type 0} (node : H → ℕ) (state : State H) (first place n : ℕ) → first ≤ place → stack_under node state (place + 1) ≡ n ∷ stack_under node state place
    → open_between node state first (place + 1) ≡ n ∷ open_between node state first place
between_more node state first place n h e =
    let more : place + 1 - first ≡ suc (place - first) = omega (arith, h) in
    ap (λ k. take k (stack_under node state (place + 1))) more ∙ ap (take (suc (place - first))) e

pub between_none : {H : Type 0} (node : H → ℕ) (state : State H) (first place : ℕ) → place ≤ first → open_between node state first place ≡ []
between_none node state first place h = let none : place - first ≡ 0 = omega (arith, h) in ap (λ k. take k (stack_under node state place)) none

pub grown_first : (choices : SinkChoices) (l : List Entry) (ms made : List ℕ) (last n : ℕ) (f : Forest) → made ≡ [] → last ≡ n → grown choices l ms (record { forest = f; clones = made; outermost = last }) ≡ nest choices l ms n f
grown_first choices l ms made last n f e h = ap (λ c. grown choices l ms (record { forest = f; clones = c; outermost = last })) e ∙ ap (λ m. nest choices l ms m f) h

-- if nothing is left to be made
pub picked_gone : (k : ℕ) (l : List Entry) (ms : List ℕ) → (k ≡ 0) ⊎ (ms ≡ []) → picked k l ms ≡ []
picked_gone k l ms (inl e) = ap (λ j. picked j l ms) e
picked_gone zero l ms (inr e) = refl
picked_gone (suc k) l ms (inr e) = ap (picked (suc k) l) e

-- an open element that isn't the root is newer than another
pub record HasOlder (n : ℕ) (s : List ℕ) : Type 0 where
  pub older : ℕ
  pub before : Before s n older

pub has_older : {H : Type 0} (node : H → ℕ) (state : State H) (n place : ℕ) → 0 < place → place < length (elements_of state) → stack_under node state (place + 1) ≡ n ∷ stack_under node state place
    → HasOlder n (reverse (map (open_node node) (elements_of state)))
has_older node state n place some inside step =
    let cut = stack_cut node state (place + 1) in
    let below = under_more node state (place - 1) (omega (arith, inside)) in
    let same : place - 1 + 1 ≡ place = omega (arith, some) in
    let next : stack_under node state place ≡ below.element ∷ stack_under node state (place - 1) = ap (stack_under node state) (sym same) ∙ below.step in
    record {
      older = below.element;
      before = subst (λ s. Before s n below.element) (sym (cut.cut ∙ ap (λ r. cut.newer ++ r) (step ∙ ap (λ r. n ∷ r) next))) (before_right n below.element cut.newer (n ∷ below.element ∷ stack_under node state (place - 1)) (inl (refl, inl refl)));
    }
