-- Conditions that wait to be tested on elements.
use Rattle.std.specs.Prelude.{◌≡◌, ◌<◌, ◌≤◌, ℕ, ◌+◌, ◌||◌, Bool, List, [], ◌∷◌, map}
use Rattle.std.specs.List.{list_any}
use Rattle.h5_interface.specs.Forest.{Forest}
use Rattle.h5_selectors.specs.Query.{Context, holds_by, seen_by}
use Rattle.h5_selectors.specs.Ways.{led}
use Rattle.h5_selectors.specs.declared.formula.Formula.{Formula, Nth', Not', And', Or', Leads'}
use Rattle.h5_selectors.specs.declared.holds.Step.{Step}

-- a condition that waits for a test on a node
pub record Waits : Type 0 where
  pub formula : Formula
  pub node : ℕ

abbrev pub seen_one : {N : Type 0} → (N → ℕ) → Step N → Waits
seen_one place step = record { formula = step.formula.now; node = place step.id }

abbrev pub seen : {N : Type 0} → (N → ℕ) → List (Step N) → List Waits
seen place = map (seen_one place)

-- true if a condition that waits holds for its element
abbrev pub step_holds : Context → Waits → Bool
step_holds query step = holds_by query step.formula step.node

-- the sum of a number of each item
abbrev pub sum_of : {A : Type 0} → (A → ℕ) → List A → ℕ
sum_of number [] = 0
sum_of number (item ∷ items) = number item + sum_of number items

-- the number of tests that a condition takes at most, with those of the conditions that wait for it then
abbrev pub tests_of : Forest → Formula → ℕ → ℕ
tests_of f (And' p one q other) n = 1 + tests_of f other n
tests_of f (Or' p one q other) n = 1 + (tests_of f one n + tests_of f other n)
tests_of f (Leads' way p inner) n = 1 + sum_of (tests_of f inner) (led way f n)
tests_of f formula n = 1

abbrev pub tests_by : Context → Formula → ℕ → ℕ
tests_by query = tests_of (seen_by query)

abbrev pub tests_left : Context → List Waits → ℕ
tests_left query = sum_of (λ step. tests_by query step.formula step.node)

-- the number of conditions in a condition
abbrev pub size_of : Formula → ℕ
size_of (Nth' indices side p of) = 1 + size_of of
size_of (Not' p inner) = 1 + size_of inner
size_of (And' p one q other) = 1 + (size_of one + size_of other)
size_of (Or' p one q other) = 1 + (size_of one + size_of other)
size_of (Leads' way p inner) = 1 + size_of inner
size_of formula = 1

-- steps on nodes of the arena, with conditions of at most this size
abbrev pub IsStep : Context → (size : ℕ) → Waits → Type 0
IsStep query size step = size_of step.formula ≤ size

abbrev pub AreSteps : Context → (size : ℕ) → List Waits → Type 0
AreSteps query size [] = Unit {0}
AreSteps query size (step ∷ steps) = IsStep query size step × AreSteps query size steps

-- more conditions wait: one of them holds if the answer says so, they take this number of tests, and a condition is at least as large
pub record AreAdded (query : Context) (answer : Bool) (tests : ℕ) (formula : Formula) (before after : List Waits) : Type 0 where
  pub same : list_any (step_holds query) after ≡ (answer || list_any (step_holds query) before)
  pub count : tests_left query after ≡ tests + tests_left query before
  pub steps : (size : ℕ) → size_of formula ≤ size → AreSteps query size before → AreSteps query size after

-- a condition was tested on an element: it holds, or it does if one of those does that wait now and didn't before; fewer tests are left
pub record AreTested (query : Context) (formula : Formula) (n : ℕ) (answer : Bool) (before after : List Waits) : Type 0 where
  pub same : (answer || list_any (step_holds query) after) ≡ (holds_by query formula n || list_any (step_holds query) before)
  pub fewer : tests_left query after < tests_by query formula n + tests_left query before
  pub steps : (size : ℕ) → size_of formula ≤ size → AreSteps query size before → AreSteps query size after
