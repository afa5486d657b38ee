-- Foreign content is left, one element after the other.
use Rattle.std.proofs.Common.{◌≡◌, ◌<◌, ℕ, true, false, cond, List, [], ◌∷◌, length, refl, ap, sym, ◌∙◌, arith}
use Rattle.h5_interface.specs.SinkChoices.{SinkChoices}
use Rattle.h5_builder_spec.specs.Changes.{pop}
use Rattle.h5_builder_spec.specs.insertion.Foreign.{leave_foreign_content, pop_left}
use Rattle.h5_builder_spec.specs.stack.Order.{but_first}
use Rattle.h5_builder_spec.specs.World.{World}
use Rattle.h5_builder_spec.proofs.changes.PopLaws.{pop_stack}
use Rattle.h5_builder_actions.specs.Leaving.{is_current_left, is_first_left}

pub leave_step : (choices : SinkChoices) (w : World) → is_current_left choices w ≡ true → leave_foreign_content choices (pop choices w) ≡ leave_foreign_content choices w
unfolding leave_foreign_content
leave_step choices w h = ap (λ s. pop_left choices s (pop choices w)) (pop_stack choices w) ∙ at w.stack h
  where
    at : (s : List ℕ) → is_first_left choices w.forest s ≡ true → pop_left choices (but_first s) (pop choices w) ≡ pop_left choices s w
    at [] h = absurd (cc)
    at (n ∷ s) h = sym (ap (λ b. cond b (pop_left choices s (pop choices w)) w) h)

pub leave_none : (choices : SinkChoices) (w : World) → is_current_left choices w ≡ false → leave_foreign_content choices w ≡ w
unfolding leave_foreign_content
leave_none choices w h = at w.stack h
  where
    at : (s : List ℕ) → is_first_left choices w.forest s ≡ false → pop_left choices s w ≡ w
    at [] h = refl
    at (n ∷ s) h = ap (λ b. cond b (pop_left choices s (pop choices w)) w) h

-- what is left is open
pub left_is_open : (choices : SinkChoices) (w : World) → is_current_left choices w ≡ true → 0 < length w.stack
left_is_open choices w h = at w.stack h
  where
    at : (s : List ℕ) → is_first_left choices w.forest s ≡ true → 0 < length s
    at [] h = absurd (cc)
    at (n ∷ s) h = omega arith
