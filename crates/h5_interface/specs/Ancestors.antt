-- Ancestors (DOM standard, section 1.1, "Trees"), by a map from each node to its parent.
use Rattle.std.specs.Prelude.{◌≡◌, ◌⊎◌, ℕ, Option, Some}

-- a is the parent of the node, or an ancestor of its parent (DOM standard: ancestor)
pub data IsAncestor (up : ℕ → Option ℕ) (a : ℕ) : ℕ → Type 0 where
  Parent : {n : ℕ} → up n ≡ Some a → IsAncestor up a n
  Further : {n : ℕ} (p : ℕ) → IsAncestor up a p → up n ≡ Some p → IsAncestor up a n

-- a is the node itself, or an ancestor of it (DOM standard: inclusive ancestor)
abbrev pub AtOrAbove : (ℕ → Option ℕ) → ℕ → ℕ → Type 0
AtOrAbove up a n = (a ≡ n) ⊎ IsAncestor up a n
