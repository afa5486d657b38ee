-- The new place of the furthest block, by the place of the formatting element.
use Rattle.std.proofs.Common.{◌≡◌, ◌+◌, ◌-◌, ◌<◌, ◌≤◌, ℕ, List, [], ◌∷◌, ◌++◌, append_assoc, length, map, reverse, inl, refl, ap, sym, subst, ◌∙◌, arith}
use Rattle.h5_interface.specs.declared.sink.TreeSink.{Ghosts}
use Rattle.h5_builder_spec.specs.formatting.Adoption.{newer_than, older_than}
use Rattle.h5_builder_spec.specs.stack.Order.{IsIn, first_or}
use Rattle.h5_builder_spec.proofs.entries.PassLaws.{stack_split}
use Rattle.h5_builder_spec.proofs.adoption.AdoptionPlace.{ancestor_is_older, older_is_open}
use Rattle.h5_builder_spec.specs.World.{root}
use Rattle.h5_builder_state.specs.Steps.{IsSound, world_of}
use Rattle.h5_builder_state.specs.View.{elements_of, open_node, stack_under, world}
use Rattle.h5_builder_state.specs.declared.state.State.{State}
use Rattle.h5_builder_actions.specs.Hanging.{MayMove}
use Rattle.h5_builder_actions.proofs.CloneLaws.{same_tail}
use Rattle.h5_builder_actions.proofs.OpenLaws.{length_split, length_under, stack_cut}

-- what is older than the element at a place stands under the place
pub older_under : {H : Type 0} (node : H → ℕ) (state : State H) (n place : ℕ) (s : List ℕ) → s ≡ reverse (map (open_node node) (elements_of state)) → IsIn n s → place ≡ length (older_than n s) → older_than n s ≡ stack_under node state place
older_under node state n place s same is_in here =
    let cut = stack_cut node state place in
    let few : place ≤ length (reverse (map (open_node node) (elements_of state))) = omega (arith, here, length_split n s is_in, ap length same) in
    same_tail (newer_than n s ++ n ∷ []) cut.newer (older_than n s) (stack_under node state place)
    (append_assoc (newer_than n s) (n ∷ []) (older_than n s) ∙ sym (stack_split n s is_in) ∙ same ∙ cut.cut)
    (sym here ∙ sym (length_under node state place few))

some_in : (n : ℕ) (s : List ℕ) → IsIn n s → 0 < length s
some_in n [] h = absurd h
some_in n (m ∷ s) h = omega arith

module _ {S H O : Type 0} (law : Ghosts S H O) (old : S) (state : State H) (place last : ℕ) (k : IsSound law old state) (may : MayMove place last (world_of law old state)) where
  pub under_place : older_than may.element.node (world_of law old state).stack ≡ stack_under law.node state place
  unfolding world
  under_place = older_under law.node state may.element.node place (world_of law old state).stack refl may.at.is_open may.at.here

  pub not_lowest : 0 < place
  not_lowest = let some = some_in _ _ (ancestor_is_older (world_of law old state) may.may k.sound may.root) in omega (arith, some, may.at.here)

  pub place_inside : place < length (world_of law old state).stack
  place_inside = omega (arith, may.at.here, length_split may.element.node (world_of law old state).stack may.at.is_open)

  -- the element next below
  pub next_is_older : (n : ℕ) (rest : List ℕ) → stack_under law.node state (place - 1 + 1) ≡ n ∷ rest → IsIn n (older_than may.element.node (world_of law old state).stack)
  next_is_older n rest e =
      let same : place - 1 + 1 ≡ place = omega (arith, not_lowest) in
      subst (IsIn n) (sym (under_place ∙ ap (stack_under law.node state) (sym same) ∙ e)) (inl refl)

  pub next_is_open : (n : ℕ) (rest : List ℕ) → stack_under law.node state (place - 1 + 1) ≡ n ∷ rest → IsIn n (world_of law old state).stack
  next_is_open n rest e = older_is_open (world_of law old state) may.may n (next_is_older n rest e)

  pub next_is_first : (n : ℕ) (rest : List ℕ) → stack_under law.node state (place - 1 + 1) ≡ n ∷ rest → n ≡ first_or (root (world_of law old state)) (stack_under law.node state place)
  next_is_first n rest e =
      let same : place - 1 + 1 ≡ place = omega (arith, not_lowest) in
      sym (ap (first_or (root (world_of law old state))) (ap (stack_under law.node state) (sym same) ∙ e))
