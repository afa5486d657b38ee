-- The numbers by which entries are found.
use Rattle.std.specs.Prelude.{◌≡◌, ◌≢◌, ℕ, ◌+◌, ◌<◌, ◌≤◌, List, length, map, slice_index_or}
use denote.Enum.Declared.{tag_of}
use Rattle.h5_names.specs.KnownNames.{known_name_of}
use Rattle.h5_names.specs.contracts.known_name.KnownName.{the_type}
use Rattle.h5_tables.specs.declared.entry.FormatEntry.{FormatEntry}
use Rattle.h5_tables.specs.declared.entry.FormatEntry.TheVariants.{Element, Marker}
use Rattle.h5_builder_state.specs.Numbered.{Numbered, numbers}

-- the number of a name: equal names have equal numbers; other names may share it
unfoldable pub name_number : List ℕ → ℕ
name_number name = tag_of the_type (known_name_of name) + 1

-- the number of an entry; that of a marker isn't the number of any name
abbrev pub entry_number : {H : Type 0} → FormatEntry H → ℕ
entry_number (Element handle tag) = name_number tag.name
entry_number Marker = 0

-- each entry has its number
abbrev pub AreNumbered : {H T : Type 0} → List (Numbered T) → List (FormatEntry H) → Type 0
AreNumbered {H} stack items = numbers stack ≡ map (λ (entry : FormatEntry H). entry_number entry) items

-- from a place on no entry is a marker, and the one right below it is a marker, if there is one
pub record IsAfterMarkers {H : Type 0} (place : ℕ) (items : List (FormatEntry H)) : Type 0 where
  pub within : place ≤ length items
  pub elements : (k : ℕ) (x : FormatEntry H) → place ≤ k → k < length items → x ≡ slice_index_or items k x → entry_number x ≢ 0
  pub ended : (k : ℕ) (x : FormatEntry H) → place ≡ k + 1 → x ≡ slice_index_or items k x → entry_number x ≡ 0
