-- The premises under which a round of the adoption agency changes the list of active formatting elements.
use Rattle.std.specs.Prelude.{◌≡◌, ℕ, ◌+◌, List, ◌∷◌, ◌++◌, length}
use Rattle.h5_interface.specs.Forest.{kind_of}
use Rattle.h5_builder_spec.specs.formatting.Adoption.{FormattingElement, IsCloneOf, to_clone}
use Rattle.h5_builder_spec.specs.formatting.FormattingList.{ElementEntry, Entry, nodes_of}
use Rattle.h5_builder_spec.specs.formatting.InnerLoop.{MayWalk}
use Rattle.h5_builder_spec.specs.stack.Order.{IsIn}
use Rattle.h5_builder_spec.specs.World.{World}

-- The formatting element's entry is at a place of the list. On the stack, these elements are between it, which is right
-- below the first place, and its furthest block. There is a clone of each of those that needs one, and one of the
-- formatting element; each is of its original's kind, and none is listed or open.
pub record Relists (f : FormattingElement) (between clones : List ℕ) (clone at first block : ℕ) (w : World) : Type 0 where
  pub newer : List Entry
  pub older : List Entry
  pub cut : w.formatting ≡ newer ++ ElementEntry f.node f.tag ∷ older
  pub here : at ≡ length older
  pub from_block : List ℕ
  pub below : List ℕ
  pub stack : w.stack ≡ from_block ++ (between ++ f.node ∷ below)
  pub lowest : first ≡ length below + 1
  pub highest : block ≡ first + length between
  pub may_walk : MayWalk 3 between clones w.formatting
  pub above : (n : ℕ) → IsIn n between → ¬ (IsIn n (nodes_of (ElementEntry f.node f.tag ∷ older)))
  pub new : ¬ (IsIn clone (nodes_of w.formatting))
  pub unopened : (n : ℕ) → IsIn n (clone ∷ clones) → ¬ (IsIn n w.stack)
  pub alike : (y x : ℕ) → IsCloneOf (to_clone w.formatting between) clones y x → kind_of w.forest y ≡ kind_of w.forest x
  pub own : kind_of w.forest clone ≡ kind_of w.forest f.node
