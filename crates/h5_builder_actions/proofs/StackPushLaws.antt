-- New open elements are pushed.
use Rattle.std.proofs.Common.{◌≡◌, ℕ, List, [], ◌∷◌, ◌++◌, append_assoc, map, reverse, ap, sym, ◌∙◌}
use Rattle.std.proofs.lemmas.List.{append_cancel_right}
use Rattle.h5_builder_spec.specs.World.{World}
use Rattle.h5_builder_state.specs.View.{with_stack}
use Rattle.h5_builder_state.proofs.SeenLaws.{seen-cons}

-- what a stack has more than it had was put on top of a list, too
pub record Carried (low high old new : List ℕ) : Type 0 where
  pub newer : List ℕ
  pub stack : high ≡ newer ++ low
  pub list : new ≡ newer ++ old

pub carried_more : (low high higher old new newest : List ℕ) (n : ℕ) → higher ≡ n ∷ high → newest ≡ n ∷ new → Carried low high old new → Carried low higher old newest
carried_more low high higher old new newest n e h k = record { newer = n ∷ k.newer; stack = e ∙ ap (λ s. n ∷ s) k.stack; list = h ∙ ap (λ s. n ∷ s) k.list }

pub carried_all : (low high old new newer : List ℕ) → Carried low high old new → high ≡ newer ++ low → new ≡ newer ++ old
carried_all low high old new newer k e = k.list ∙ ap (λ z. z ++ old) (append_cancel_right k.newer newer low (sym k.stack ∙ e))

-- one more of those that are left stands on top
pub moved_over : {H : Type 0} (node : H → ℕ) (left rest : List H) (x : H) (s : List ℕ) → left ≡ x ∷ rest → reverse (map node rest) ++ node x ∷ s ≡ reverse (map node left) ++ s
moved_over node left rest x s e =
    sym (append_assoc (reverse (map node rest)) (node x ∷ []) s) ∙ ap (λ z. z ++ s) (sym (seen-cons node x rest)) ∙ ap (λ xs. reverse (map node xs) ++ s) (sym e)

pub same_but_stack : (v w : World) (s : List ℕ) → v ≡ with_stack s w → v ≡ with_stack v.stack w
same_but_stack v w s e = e ∙ ap (λ t. with_stack t w) (sym (ap (λ (u : World). u.stack) e))
