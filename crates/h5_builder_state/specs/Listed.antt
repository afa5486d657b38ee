-- What contracts see of entries of the list of active formatting elements, wherever their texts are in memory.
use Rattle.std.specs.Prelude.{◌≡◌, ◌==◌, ◌<◌, ◌≤◌, ℕ, suc, if◌then◌else◌, Bool, false, List, [], ◌∷◌, ◌++◌, Some, length, map, reverse, slice_index_or, slice_set}
use Rattle.h5_names.specs.AttributeText.{is_same_text}
use Rattle.h5_token.specs.TokenText.{TagText, tag_text}
use Rattle.h5_tables.specs.declared.entry.FormatEntry.{FormatEntry}
use Rattle.h5_tables.specs.declared.entry.FormatEntry.TheVariants.{Element, Marker}
use Rattle.h5_builder_spec.specs.formatting.Adoption.{FormattingElement, newest_named}
use Rattle.h5_builder_spec.specs.formatting.FormattingList.{ElementEntry, Entry, MarkerEntry, is_alike}
use Rattle.h5_builder_state.specs.declared.surplus.Alike.{Alike}

abbrev pub entry_of : {H : Type 0} → (H → ℕ) → FormatEntry H → Entry
entry_of node (Element handle tag) = ElementEntry (node handle) (tag_text tag)
entry_of node Marker = MarkerEntry

-- a list that grows at its end, with the newest entry first
abbrev pub entries_of : {H : Type 0} → (H → ℕ) → List (FormatEntry H) → List Entry
entries_of node items = reverse (map (entry_of node) items)

-- the entry is that of an element whose tag has this name
abbrev pub is_named : {H : Type 0} → List ℕ → FormatEntry H → Bool
is_named name (Element handle tag) = is_same_text tag.name name
is_named name Marker = false

-- between two places no entry has this name
abbrev pub AreOtherwiseNamed : {H : Type 0} → List ℕ → ℕ → ℕ → List (FormatEntry H) → Type 0
AreOtherwiseNamed {H} name from to items = (k : ℕ) (x : FormatEntry H) → from ≤ k → k < to → x ≡ slice_index_or items k x → is_named name x ≡ false

-- the entry with another element
abbrev pub with_handle : {H : Type 0} → H → FormatEntry H → FormatEntry H
with_handle handle (Element other tag) = Element handle tag
with_handle handle Marker = Marker

-- the entry at a place now has this element
pub record IsHandedOver {H : Type 0} (handle : H) (place : ℕ) (old new : List (FormatEntry H)) : Type 0 where
  pub entry : FormatEntry H
  pub was : entry ≡ slice_index_or old place entry
  pub is : new ≡ slice_set old place (with_handle handle entry)

-- the newest entry of a name after the last marker is at this place
pub record IsNewestNamedAt (name : List ℕ) (place : ℕ) (l : List Entry) : Type 0 where
  pub element : FormattingElement
  pub newest : newest_named name l ≡ Some element
  pub newer : List Entry
  pub older : List Entry
  pub cut : l ≡ newer ++ ElementEntry element.node element.tag ∷ older
  pub here : place ≡ length older

-- the list without the entry at a place, which is the number of older entries
abbrev pub without_place : ℕ → List Entry → List Entry
without_place place [] = []
without_place place (e ∷ l) = if length l == place then l else e ∷ without_place place l

-- the number of entries after the last marker that are alike to a tag, and the place of the earliest of them, added to
-- what was found before
abbrev pub alike_from : TagText → List Entry → Alike → Alike
alike_from tag [] found = found
alike_from tag (MarkerEntry ∷ l) found = found
alike_from tag (ElementEntry n other ∷ l) found =
    if is_alike tag other then alike_from tag l (record { count = suc found.count; earliest = length l }) else alike_from tag l found

abbrev pub none_found : Alike
none_found = record { count = 0; earliest = 0 }

-- the entry is that of an element whose tag is alike to this one
abbrev pub is_alike_entry : {H : Type 0} → TagText → FormatEntry H → Bool
is_alike_entry tag (Element handle other) = is_alike tag (tag_text other)
is_alike_entry tag Marker = false
