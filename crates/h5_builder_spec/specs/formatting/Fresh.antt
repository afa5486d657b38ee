-- Elements that are new to a stack, a list and a forest.
use Rattle.std.specs.Prelude.{ℕ, List, [], ◌∷◌}
use Rattle.h5_interface.specs.Forest.{Forest, IsNode}
use Rattle.h5_builder_spec.specs.formatting.FormattingList.{Entry, nodes_of}
use Rattle.h5_builder_spec.specs.stack.Order.{Distinct, IsIn}

-- distinct elements that are neither open nor listed
pub record AreFresh (fresh s : List ℕ) (l : List Entry) : Type 0 where
  pub distinct : Distinct fresh
  pub unopened : (x : ℕ) → IsIn x fresh → ¬ (IsIn x s)
  pub unlisted : (x : ℕ) → IsIn x fresh → ¬ (IsIn x (nodes_of l))

-- these nodes are created in a forest, the first one first, possibly with other changes in between
pub data Makes : Forest → List ℕ → Type 0 where
  no_more : {f : Forest} → Makes f []
  one_more : {f : Forest} {n : ℕ} {ns : List ℕ} (g : Forest) → ¬ (IsNode f n) → ((m : ℕ) → IsNode f m → IsNode g m) → IsNode g n → Makes g ns → Makes f (n ∷ ns)
