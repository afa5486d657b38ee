-- The elements that an iterator from the end of the list of active formatting elements to its last marker still
-- returns.
use Rattle.std.specs.Prelude.{ℕ, suc, List, [], ◌∷◌, length, reverse}
use Rattle.h5_token.specs.TokenText.{tag_text}
use Rattle.h5_token.specs.declared.tag.Tag.{Tag}
use Rattle.h5_tables.specs.declared.entry.FormatEntry.{FormatEntry}
use Rattle.h5_tables.specs.declared.entry.FormatEntry.TheVariants.{Element, Marker}
use Rattle.h5_builder_spec.specs.formatting.FormattingList.{Entry, ElementEntry}
use Rattle.h5_builder_state.specs.declared.open_element.Listed.{Listed}

-- of entries with the newest first: up to the first marker, each element with its tag and its place, which is the
-- number of older entries
abbrev pub placed : {H : Type 0} → List (FormatEntry (Listed H)) → List (ℕ × (H × Tag))
placed [] = []
placed (Marker ∷ l) = []
placed (Element listed tag ∷ l) = (length l, (listed.handle, tag)) ∷ placed l

-- of entries with the oldest first
abbrev pub still_given : {H : Type 0} → List (FormatEntry (Listed H)) → List (ℕ × (H × Tag))
still_given entries = placed (reverse entries)

-- a returned element as an entry of a world's list
abbrev pub given_entry : {H : Type 0} → (H → ℕ) → ℕ × (H × Tag) → Entry
given_entry node given = ElementEntry (node given.1.0) (tag_text given.1.1)

abbrev pub given_place : {H : Type 0} → ℕ × (H × Tag) → ℕ
given_place given = given.0

-- the places of entries with the newest first, if the newest is the last of n entries
abbrev pub falling : ℕ → List Entry → List ℕ
falling (suc n) (e ∷ l) = n ∷ falling n l
falling _ _ = []
