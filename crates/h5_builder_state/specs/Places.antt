-- What a stack stores with its values, by their numbers, with the oldest first.
use Rattle.std.specs.Prelude.{◌≡◌, ◌<◌, ◌^◌, ℕ, All, List, length, reverse, slice_index, take}
use Rattle.h5_builder_state.specs.Numbered.{newest_of}

-- of the `count` oldest values each link is right, and so is the table of the newest value by number
pub record IsLinked (numbers links table : List ℕ) (count : ℕ) : Type 0 where
  pub linked : (k : ℕ) → k < count → slice_index links k ≡ newest_of (slice_index numbers k) (reverse (take k numbers))
  pub tabled : (n : ℕ) → slice_index table n ≡ newest_of n (reverse (take count numbers))

-- the table has an entry for each number
abbrev pub IsReached : List ℕ → List ℕ → Type 0
IsReached numbers table = All (λ n. n < length table) numbers

-- all links are right, and so is the table; places fit 32 bits
pub record IsPlaced (numbers links table : List ℕ) : Type 0 where
  pub whole : IsLinked numbers links table (length numbers)
  pub reached : IsReached numbers table
  pub small : length numbers < 2 ^ 32
