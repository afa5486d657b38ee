-- The elements among the numbers of a block from one number on: among its siblings, or among all numbers up to another.
use Rattle.std.specs.Prelude.{◌≡◌, ◌⊎◌, ℕ, ◌+◌, ◌-◌, ◌<◌, ◌≤◌, ◌==◌, ◌||◌, Bool, false, true, if◌then◌else◌, List, [], ◌∷◌, nat_lt}
use Prim.Native.Nat.{zero, suc}
use Rattle.std.specs.List.{filter, range_with_len}
use Rattle.h5_tree_block.specs.Block.{end_in, kind_in, nodes_in, nothing, parent_in}

module _ (b : List ℕ) where
  -- the elements among numbers
  abbrev pub elements_in : List ℕ → List ℕ
  elements_in = filter (λ m. kind_in b m == 1)

  -- those of a count of numbers from one on that have this parent
  abbrev pub children_from : (parent from count : ℕ) → List ℕ
  children_from p from count = filter (λ m. parent_in b m == p) (range_with_len from count)

  -- a number with this parent, or nothing
  abbrev pub IsChildOrNone : (parent at : ℕ) → Type 0
  IsChildOrNone p at = (at ≡ nothing) ⊎ ((parent_in b at ≡ p) × (0 < at) × (at < nodes_in b))

  -- the child elements of a parent from a number on
  abbrev pub elements_from : (parent at : ℕ) → List ℕ
  elements_from p at = if at == nothing then [] else elements_in (children_from p at (end_in b p - at))

  -- there are neither elements nor texts among numbers
  abbrev pub is_bare_in : List ℕ → Bool
  is_bare_in [] = true
  is_bare_in (x ∷ xs) = if kind_in b x == 1 || kind_in b x == 3 then false else is_bare_in xs

  -- and among the children of a parent from a number on
  abbrev pub is_bare_from : (parent at : ℕ) → Bool
  is_bare_from p at = if at == nothing then true else is_bare_in (children_from p at (end_in b p - at))

  -- a number has this parent, and comes before another number or is that number
  pub record IsBefore (parent number at : ℕ) : Type 0 where
    pub child : parent_in b at ≡ parent
    pub after : 0 < at
    pub within : at ≤ number

  -- the child elements of a parent from one number up to another
  abbrev pub elements_up_to : (parent number at : ℕ) → List ℕ
  elements_up_to p n at = elements_in (children_from p at (n - at))

  -- the elements from one number up to another, except those in the contents of templates, in this number of steps
  unfoldable pub elements_in_steps : (steps from to : ℕ) → List ℕ
  elements_in_steps zero x to = []
  elements_in_steps (suc k) x to =
      if nat_lt x to then (if kind_in b x == 11 then elements_in_steps k (end_in b x) to else (if kind_in b x == 1 then x ∷ elements_in_steps k (x + 1) to else elements_in_steps k (x + 1) to))
      else []

  -- with as many steps as there are numbers
  abbrev pub elements_between : (from to : ℕ) → List ℕ
  elements_between x to = elements_in_steps (to - x) x to
