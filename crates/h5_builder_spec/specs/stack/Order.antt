-- Lists of nodes with the newest first, and the order of open elements: none is an ancestor of an older one.
use Rattle.std.specs.Prelude.{◌≡◌, ℕ, ◌==◌, Bool, true, false, if◌then◌else◌, ◌⊎◌, List, [], ◌∷◌, Option, Some, None}
use Rattle.h5_interface.specs.Ancestors.{AtOrAbove}

-- a list has a number
abbrev pub IsIn : ℕ → List ℕ → Type 0
IsIn n [] = ⊥
IsIn n (m ∷ ms) = (n ≡ m) ⊎ IsIn n ms

-- the test for `IsIn`
abbrev pub is_in : ℕ → List ℕ → Bool
is_in n [] = false
is_in n (m ∷ ms) = if n == m then true else is_in n ms

-- x is before y
abbrev pub Before : List ℕ → ℕ → ℕ → Type 0
Before [] x y = ⊥
Before (n ∷ ns) x y = ((x ≡ n) × IsIn y ns) ⊎ Before ns x y

-- no member occurs twice
abbrev pub Distinct : List ℕ → Type 0
Distinct s = (x : ℕ) → ¬ (Before s x x)

-- of two members, with the newest first, the newer one is neither the older one nor above it; so members are distinct
pub record IsOrdered (up : ℕ → Option ℕ) (s : List ℕ) : Type 0 where
  pub newer : (x y : ℕ) → Before s x y → ¬ (AtOrAbove up x y)

-- the newest, and all but the newest
abbrev pub first_or : ℕ → List ℕ → ℕ
first_or d [] = d
first_or d (n ∷ ns) = n

abbrev pub but_first : List ℕ → List ℕ
but_first [] = []
but_first (n ∷ ns) = ns

-- the oldest
abbrev pub last_or : ℕ → List ℕ → ℕ
last_or d [] = d
last_or d (n ∷ ns) = last_or n ns

-- the second oldest
abbrev pub second_from_last : List ℕ → Option ℕ
second_from_last [] = None
second_from_last (n ∷ []) = None
second_from_last (n ∷ m ∷ []) = Some n
second_from_last (n ∷ m ∷ k ∷ ns) = second_from_last (m ∷ k ∷ ns)
