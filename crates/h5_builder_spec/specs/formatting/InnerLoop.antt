-- The inner loop of the adoption agency over the list, one element at a time (HTML standard, section 13.2.6.4.7,
-- "adoption agency algorithm").
use Rattle.std.specs.Prelude.{◌≡◌, ℕ, zero, suc, ◌==◌, if◌then◌else◌, List, [], ◌∷◌, length, filter, take}
use Rattle.h5_builder_spec.specs.formatting.FormattingList.{ElementEntry, Entry, MarkerEntry, nodes_of, without_entry}
use Rattle.h5_builder_spec.specs.stack.Order.{Distinct, IsIn, is_in}

-- "replace the entry for node with an entry for the new element"
abbrev pub swapped : ℕ → ℕ → List Entry → List Entry
swapped m n [] = []
swapped m n (MarkerEntry ∷ l) = MarkerEntry ∷ swapped m n l
swapped m n (ElementEntry x t ∷ l) = if x == m then ElementEntry n t ∷ l else ElementEntry x t ∷ swapped m n l

-- The loop over the elements between, the one nearest to the furthest block first, with clones for the listed ones. In
-- the first k steps a listed element is replaced by its clone; after that its entry is removed. One that isn't listed
-- is skipped.
abbrev pub walked : ℕ → List ℕ → List ℕ → List Entry → List Entry
walked k [] ys l = l
walked zero (m ∷ ms) ys l = walked zero ms ys (without_entry m l)
walked (suc k) (m ∷ ms) [] l = walked k ms [] l
walked (suc k) (m ∷ ms) (y ∷ ys) l = if is_in m (nodes_of l) then walked k ms ys (swapped m y l) else walked k ms (y ∷ ys) l

-- the listed ones among the first k
abbrev pub picked : ℕ → List Entry → List ℕ → List ℕ
picked k l ms = filter (λ n. is_in n (nodes_of l)) (take k ms)

-- the premises of the loop: no element occurs twice, and there is a new clone for each that needs one
pub record MayWalk (k : ℕ) (ms ys : List ℕ) (l : List Entry) : Type 0 where
  pub between : Distinct ms
  pub listed : Distinct (nodes_of l)
  pub as_many : length ys ≡ length (picked k l ms)
  pub clones : Distinct ys
  pub apart : (y : ℕ) → IsIn y ys → ¬ (IsIn y ms)
  pub new : (y : ℕ) → IsIn y ys → ¬ (IsIn y (nodes_of l))
