-- A value is replaced: the link, or the entry of the table, that has the place of the newest value of a number below
-- it.
use Rattle.std.specs.Prelude.{◌≡◌, ◌<◌, ◌≤◌, ◌+◌, ℕ, List, MatchOption, Option, Some, None, length, reverse, slice_index, slice_set, take}
use Rattle.h5_builder_state.specs.Numbered.{newest_of}

-- the first value of a number above a place: no value of the number is between the two
pub record IsNextAt (number place : ℕ) (numbers : List ℕ) (next : ℕ) : Type 0 where
  pub above : place < next
  pub inside : next < length numbers
  pub here : slice_index numbers next ≡ number
  pub first : newest_of number (reverse (take next numbers)) ≤ place + 1

-- the first value of a number above a place, if there is one
abbrev pub IsNextNewer : ℕ → ℕ → List ℕ → Option ℕ → Type 0
IsNextNewer number place numbers next =
    MatchOption next (newest_of number (reverse numbers) ≤ place + 1) (IsNextAt number place numbers)

-- the newest value of a number below the next newer one: the link of that one, or, if there is none, the entry of the
-- table
abbrev pub older_by : Option ℕ → ℕ → List ℕ → List ℕ → ℕ
older_by None number links table = slice_index table number
older_by (Some next) number links table = slice_index links next

-- the links and the table after that place changed
abbrev pub links_with : Option ℕ → ℕ → List ℕ → List ℕ
links_with None older links = links
links_with (Some next) older links = slice_set links next older

abbrev pub table_with : Option ℕ → ℕ → ℕ → List ℕ → List ℕ
table_with None number older table = slice_set table number older
table_with (Some next) number older table = table
