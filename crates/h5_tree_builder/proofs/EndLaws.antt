-- Popping all open elements.
use Rattle.std.proofs.Common.{◌≡◌, ◌<◌, ℕ, List, [], ◌∷◌, length, refl, ap, sym, subst, ◌∙◌, arith}
use Rattle.h5_interface.specs.Seen.{Seen}
use Rattle.h5_interface.specs.SinkChoices.{SinkChoices}
use Rattle.h5_builder_spec.specs.Changes.{pop}
use Rattle.h5_builder_spec.specs.inner.Kept.{HasLists}
use Rattle.h5_builder_spec.specs.World.{World}
use Rattle.h5_builder_spec.specs.formatting.FormattingList.{Entry}
use Rattle.h5_builder_spec.specs.inner.Lists.{Lists}
use Rattle.h5_builder_spec.specs.stack.Order.{but_first}
use Rattle.h5_builder_state.proofs.ItemLaws.{length-values}
use Rattle.h5_builder_state.specs.View.{elements_of, open_node, world}
use Rattle.h5_builder_state.specs.declared.state.State.{State}
use Rattle.h5_builder_state.proofs.AttributeLaws.{open_length}
use Rattle.h5_tree_builder.specs.Builder.{all_popped, pop_each}

-- as many open elements are seen as are kept
pub seen_length : {S H : Type 0} (sees : S → Seen) (node : H → ℕ) (sink : S) (state : State H) → length (world sees node sink state).stack ≡ length state.open_elems.elements
unfolding world
seen_length sees node sink state = open_length (open_node node) (elements_of state) ∙ length-values state.open_elems.elements

-- one element less
pub pop_next : (choices : SinkChoices) (w : World) → 0 < length w.stack → all_popped choices (pop choices w) ≡ all_popped choices w
unfolding pop
pop_next choices w some = at w.stack refl
  where
    at : (s : List ℕ) → w.stack ≡ s → pop_each choices (pop choices w).stack (pop choices w) ≡ pop_each choices w.stack w
    at [] e = absurd (omega (arith, some, ap length e))
    at (n ∷ s) e = ap (λ x. pop_each choices (but_first x) (pop choices w)) e ∙ sym (ap (λ x. pop_each choices x w) e)

-- with no element open any list that agreed with open elements agrees
lists_none : (s : List ℕ) (l : List Entry) → Lists s l → Lists [] l
lists_none s l k = record {
  agrees = record { once = k.agrees.once; order = λ x y h. absurd h; open_first = λ x y b h. absurd h };
  alike = k.alike;
}

formatting_popped : (choices : SinkChoices) (s : List ℕ) (w : World) → (pop_each choices s w).formatting ≡ w.formatting
unfolding pop
formatting_popped choices [] w = refl
formatting_popped choices (n ∷ s) w = formatting_popped choices s (pop choices w)

-- after the end the list agrees with the open elements, of which there is none
pub lists_popped : (choices : SinkChoices) (w v : World) → v ≡ all_popped choices w → v.stack ≡ [] → HasLists w → HasLists v
lists_popped choices w v e none h =
    subst (λ s. Lists s v.formatting) (sym none) (subst (Lists []) (sym (ap (λ (u : World). u.formatting) e ∙ formatting_popped choices w.stack w)) (lists_none w.stack w.formatting h))
