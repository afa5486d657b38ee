-- The outcome of parsing, and the position and the problem of an error.
use Rattle.std.specs.Prelude.{ℕ, ◌≡◌, ◌≤◌, ◌-◌, List, length}
use Rattle.h5_selectors.specs.declared.fault.SelectorProblem.{SelectorProblem}
use Rattle.h5_selectors.specs.declared.fault.SelectorError.{SelectorError}
use Rattle.h5_selectors.specs.declared.fault.SelectorError.TheVariants.{Invalid, Memory}

-- the outcome of parsing: found; or wrong, with the problem and the number of characters from there to the end of the text
pub data Outcome (A : Type 0) : Type 0 where
  Found : (found : A) → Outcome A
  Wrong : (problem : SelectorProblem) → (left : ℕ) → Outcome A

-- a problem at the start of a text
abbrev pub wrong_at : {A : Type 0} → SelectorProblem → List ℕ → Outcome A
wrong_at problem text = Wrong problem (length text)

abbrev pub outcome_and_then : {A B : Type 0} → Outcome A → (A → Outcome B) → Outcome B
outcome_and_then (Found found) f = f found
outcome_and_then (Wrong problem left) f = Wrong problem left

-- one step after another
infixl 10 ◌>>=◌
abbrev pub ◌>>=◌ : {A B : Type 0} → Outcome A → (A → Outcome B) → Outcome B
o >>= f = outcome_and_then o f

-- the position is within a text of this length, or at its end
abbrev pub IsWithin : ℕ → SelectorError → Type 0
IsWithin length (Invalid at problem) = at ≤ length
IsWithin length Memory = Unit {0}

-- in a text of this length, the error has the problem of the outcome, and its position; after a failed allocation, nothing is known
abbrev pub Tells : {Y : Type 0} → (length : ℕ) → SelectorError → Outcome Y → Type 0
Tells length (Invalid at problem) read = (left : ℕ) × ((read ≡ Wrong problem left) × (at ≡ length - left))
Tells length Memory read = Unit {0}
