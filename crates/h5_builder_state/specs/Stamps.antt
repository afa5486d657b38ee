-- The stamps of open elements, and of the entries of the list of active formatting elements. An element that is pushed
-- gets a stamp that isn't lower than any before; an entry gets one that isn't above that of its element. So, if the
-- element of an entry is open, neither it nor a newer one has a lower stamp than the entry.
use Rattle.std.specs.Prelude.{◌≡◌, ◌≤◌, ℕ, All, List, [], ◌∷◌, map}
use Rattle.h5_tables.specs.declared.entry.FormatEntry.{FormatEntry}
use Rattle.h5_tables.specs.declared.entry.FormatEntry.TheVariants.{Element, Marker}
use Rattle.h5_builder_spec.specs.stack.Order.{IsIn}
use Rattle.h5_builder_state.specs.Numbered.{values}
use Rattle.h5_builder_state.specs.declared.open_element.Listed.{Listed}
use Rattle.h5_builder_state.specs.declared.open_element.OpenElement.{OpenElement}
use Rattle.h5_builder_state.specs.declared.open_element.OpenElements.{OpenElements}

-- the node and the stamp of an open element
pub record OpenStamp : Type 0 where
  pub node : ℕ
  pub stamp : ℕ

abbrev pub stamp_of : {H : Type 0} → (H → ℕ) → OpenElement H → OpenStamp
stamp_of node element = record { node = node element.handle; stamp = element.stamp }

-- the node and the stamp of a handle that is put onto the stack
abbrev pub stamped_as : {H : Type 0} → (H → ℕ) → ℕ → H → OpenStamp
stamped_as node stamp handle = record { node = node handle; stamp = stamp }

-- the nodes and stamps of all open elements, the oldest first
abbrev pub stamps_of : {H : Type 0} → (H → ℕ) → OpenElements H → List OpenStamp
stamps_of {H} node open_elems = map (λ (element : OpenElement H). stamp_of node element) (values open_elems.elements)

-- none of these has a lower stamp
abbrev pub NoneLower : ℕ → List OpenStamp → Type 0
NoneLower stamp opens = All (λ (one : OpenStamp). stamp ≤ one.stamp) opens

-- if a node is among these, the oldest first, neither it nor a newer one has a lower stamp
abbrev pub IsAbove : ℕ → ℕ → List OpenStamp → Type 0
IsAbove n stamp [] = Unit {0}
IsAbove n stamp (one ∷ newer) = (one.node ≡ n → NoneLower stamp (one ∷ newer)) × IsAbove n stamp newer

-- the stamp of an entry was assigned, and is right for its element
abbrev pub IsStamped : {H : Type 0} → (H → ℕ) → List OpenStamp → ℕ → FormatEntry (Listed H) → Type 0
IsStamped node opens last (Element listed tag) = (listed.stamp ≤ last) × IsAbove (node listed.handle) listed.stamp opens
IsStamped node opens last Marker = Unit {0}

unfoldable pub AreStamped : {H : Type 0} → (H → ℕ) → OpenElements H → List (FormatEntry (Listed H)) → Type 0
AreStamped {H} node open_elems entries = All (λ (entry : FormatEntry (Listed H)). IsStamped node (stamps_of node open_elems) open_elems.last entry) entries

-- if the element of an entry is one of these nodes, it may be older than these open elements
abbrev pub MayStandBelow : {H : Type 0} → (H → ℕ) → List OpenStamp → List ℕ → FormatEntry (Listed H) → Type 0
MayStandBelow node opens ns (Element listed tag) = IsIn (node listed.handle) ns → NoneLower listed.stamp opens
MayStandBelow node opens ns Marker = Unit {0}
