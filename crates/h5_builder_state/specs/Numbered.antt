-- What contracts see of a stack of numbered values, and the place of the newest value of a number.
use Rattle.std.specs.Prelude.{ℕ, ◌+◌, ◌==◌, if◌then◌else◌, List, [], ◌∷◌, length, map, reverse, take}

-- a value and its number
pub record Numbered (T : Type 0) : Type 0 where
  pub number : ℕ
  pub value : T

abbrev pub one_of : {T : Type 0} → ℕ → T → Numbered T
one_of number value = record { number = number; value = value }

abbrev pub numbers : {T : Type 0} → List (Numbered T) → List ℕ
numbers {T} stack = map (λ (one : Numbered T). one.number) stack

abbrev pub values : {T : Type 0} → List (Numbered T) → List T
values {T} stack = map (λ (one : Numbered T). one.value) stack

-- one more than the place of the newest value of a number, counted from the oldest; 0 if there is none. The list has
-- the numbers with the newest first
abbrev pub newest_of : ℕ → List ℕ → ℕ
newest_of number [] = 0
newest_of number (n ∷ older) = if n == number then length older + 1 else newest_of number older

-- `newest_of` among the `count` oldest values of a stack
abbrev pub newest_under : {T : Type 0} → ℕ → List (Numbered T) → ℕ → ℕ
newest_under number stack count = newest_of number (reverse (take count (numbers stack)))
