-- Numbers in tree order (DOM standard, section 1.1, "Trees").
use Rattle.std.specs.Prelude.{◌≡◌, ◌≤◌, ◌<◌, ◌+◌, ℕ}

-- the numbers below a count are the nodes of one tree, in tree order: each has a parent, except 0, and an end, the first number after its
-- subtree
pub record IsOrder (count : ℕ) (up end : ℕ → ℕ) : Type 0 where
  -- number 0 has no parent, and contains all numbers
  pub top : count ≤ up 0
  pub all : end 0 ≡ count
  -- a number ends after itself, and within its parent, which comes before it
  pub behind : (n : ℕ) → n < count → n < end n
  pub above : (n : ℕ) → 0 < n → n < count → up n < n
  pub inside : (n : ℕ) → 0 < n → n < count → end n ≤ end (up n)
  -- the next number is its child, unless it ends there
  pub begins : (n : ℕ) → n < count → n + 1 < end n → up (n + 1) ≡ n
  -- its end is its sibling, unless its parent ends there
  pub goes_on : (n : ℕ) → 0 < n → n < count → end n < end (up n) → up (end n) ≡ up n
