-- Open elements that replace others.
use Rattle.std.specs.Prelude.{◌≡◌, ℕ, List, Some, map, reverse, slice_set, take}
use Rattle.h5_names.specs.declared.qualified.QualName.{QualName}
use Rattle.h5_interface.specs.Forest.{Forest}
use Rattle.h5_builder_spec.specs.World.{name_in}
use Rattle.h5_builder_state.specs.Numbered.{numbers, one_of, values}
use Rattle.h5_builder_state.specs.Numbers.{name_number}
use Rattle.h5_builder_state.specs.Summaries.{summary_of}
use Rattle.h5_builder_state.specs.View.{open_node}
use Rattle.h5_builder_state.specs.declared.name_numbers.NameNumbers.{NameNumbers}
use Rattle.h5_builder_state.specs.declared.open_element.OpenElement.{OpenElement}
use Rattle.h5_builder_state.specs.declared.open_element.OpenElements.{OpenElements}

-- the names of open elements; the elements have the oldest first, the names the newest
abbrev pub names_in : {H : Type 0} → (H → ℕ) → Forest → List (OpenElement H) → List QualName
names_in node f elements = map (name_in f) (reverse (map (open_node node) elements))

-- the stored numbers are those of the elements' names
abbrev pub AreNumbered : {H : Type 0} → (H → ℕ) → Forest → OpenElements H → Type 0
AreNumbered node f open_elems = map Some (reverse (numbers open_elems.elements)) ≡ map (name_number open_elems.numbers) (names_in node f (values open_elems.elements))

-- a name that has a number keeps it
abbrev pub StayNumbered : NameNumbers → NameNumbers → Type 0
StayNumbered old new = (name : QualName) (number : ℕ) → name_number old name ≡ Some number → name_number new name ≡ Some number

-- a node is at a place, with its number, a stamp, and the right summary over the older elements
pub record IsPut {H : Type 0} (node : H → ℕ) (f : Forest) (n place stamp : ℕ) (old new : OpenElements H) : Type 0 where
  pub element : OpenElement H
  pub number : ℕ
  pub elements : new.elements ≡ slice_set old.elements place (one_of number element)
  pub here : node element.handle ≡ n
  pub stamped : element.stamp ≡ stamp
  pub summary : element.summary ≡ summary_of (name_in f n) (names_in node f (take place (values old.elements)))
  pub numbered : name_number new.numbers (name_in f n) ≡ Some number
