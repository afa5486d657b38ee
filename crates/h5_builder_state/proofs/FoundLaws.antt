-- An open element is found, and taken out of the stack.
use Rattle.std.proofs.Common.{◌≡◌, ◌+◌, ℕ, true, cond, List, [], ◌∷◌, ◌++◌, length, map, reverse, take, drop, inl, inr, refl, ap, sym, subst, ◌∙◌}
use Rattle.std.specs.Prelude.{◌==◌}
use Rattle.std.proofs.lemmas.Bool.{eq-eqb, eqb-true, ne_eqb}
use Rattle.h5_builder_spec.specs.formatting.Adoption.{newer_than, older_than, without_node}
use Rattle.h5_builder_spec.specs.stack.Order.{Distinct, IsIn}
use Rattle.h5_builder_spec.proofs.entries.PairLaws.{in_right}
use Rattle.h5_builder_spec.proofs.entries.PassLaws.{stack_split, without_node_split}
use Rattle.h5_builder_state.proofs.SeenLaws.{seen_removed}

-- the first of those that are left is it
pub found_first : (n m : ℕ) (s left : List ℕ) → left ≡ m ∷ s → (m == n) ≡ true → IsIn n left × (older_than n left ≡ s)
found_first n m s left e h = (subst (IsIn n) (sym e) (inl (sym (eqb-true m n h))), ap (older_than n) e ∙ ap (λ b. cond b s (older_than n s)) h)

-- the stack without the element at a place
pub left_out : {X : Type 0} (f : X → ℕ) (xs ys : List X) (n place : ℕ) (s : List ℕ) → s ≡ reverse (map f xs) → IsIn n s → place ≡ length (older_than n s) → ys ≡ take place xs ++ drop (place + 1) xs → reverse (map f ys) ≡ without_node n s
left_out f xs ys n place s e i h is = seen_removed f xs ys place (newer_than n s) (older_than n s) n is (sym e ∙ stack_split n s i) h ∙ sym (without_node_split n s i)

-- all that stand below one are older, if no element occurs twice
older_at : (n : ℕ) (newer older : List ℕ) → Distinct (newer ++ n ∷ older) → older_than n (newer ++ n ∷ older) ≡ older
older_at n [] older d = ap (λ b. cond b older (older_than n older)) (eq-eqb n n refl)
older_at n (m ∷ newer) older d =
    let other = ne_eqb m n (λ e. d m (inl (refl, subst (λ x. IsIn x (newer ++ n ∷ older)) (sym e) (in_right n newer (n ∷ older) (inl refl))))) in
    ap (λ b. cond b (newer ++ n ∷ older) (older_than n (newer ++ n ∷ older))) other ∙ older_at n newer older (λ x h. d x (inr h))

-- an element above n others is open at place n
pub found_at : (n m place : ℕ) (s newer older : List ℕ) → Distinct s → s ≡ newer ++ m ∷ older → length older ≡ place → (m == n) ≡ true → IsIn n s × (place ≡ length (older_than n s))
found_at n m place s newer older d cut count h =
    let same = eqb-true m n h in
    let here : s ≡ newer ++ n ∷ older = cut ∙ ap (λ x. newer ++ x ∷ older) same in (
      subst (IsIn n) (sym here) (in_right n newer (n ∷ older) (inl refl)),
      sym count ∙ ap length (sym (older_at n newer older (subst Distinct here d)) ∙ ap (older_than n) (sym here)),
    )
