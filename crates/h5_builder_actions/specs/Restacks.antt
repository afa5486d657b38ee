-- The stamps of entries before clones are put on the stack.
use Rattle.std.specs.List.{remove}
use Rattle.std.specs.Prelude.{◌≡◌, ◌⊎◌, ◌∷◌, ◌++◌, [], ℕ, All, List, drop}
use Rattle.h5_tables.specs.declared.entry.FormatEntry.{FormatEntry}
use Rattle.h5_builder_state.specs.Stamps.{AreStamped, MayStandBelow, stamps_of}
use Rattle.h5_builder_state.specs.declared.open_element.Listed.{Listed}
use Rattle.h5_builder_state.specs.declared.open_element.OpenElements.{OpenElements}

-- the entries' stamps are right, and stay right if elements of these nodes are put right below a place of the stack
pub record MayRestack {H : Type 0} (node : H → ℕ) (open_elems : OpenElements H) (place : ℕ) (ns : List ℕ) (entries : List (FormatEntry (Listed H))) : Type 0 where
  pub stamped : AreStamped node open_elems entries
  pub below : All (MayStandBelow node (drop place (stamps_of node open_elems)) ns) entries

-- an entry was added as the newest, and then one may have been removed
abbrev pub IsPushed : {X : Type 0} → X → List X → List X → Type 0
IsPushed x old new = (new ≡ old ++ x ∷ []) ⊎ ((place : ℕ) × (new ≡ remove (old ++ x ∷ []) place))
