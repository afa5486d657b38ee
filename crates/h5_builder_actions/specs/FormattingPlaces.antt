-- Places of open elements, counted from the root, and of entries, counted from the oldest.
use Rattle.std.specs.Prelude.{◌≡◌, ◌⊎◌, ℕ, ◌+◌, List, ◌∷◌, ◌++◌, length, Some}
use Rattle.h5_token.specs.TokenText.{TagText}
use Rattle.h5_interface.specs.Forest.{Forest, IsNode}
use Rattle.h5_tables.specs.TagSets.{is_special}
use Rattle.h5_builder_spec.specs.formatting.Adoption.{FurthestBlock, furthest_block, newer_than}
use Rattle.h5_builder_spec.specs.formatting.FormattingList.{ElementEntry, Entry, MarkerEntry, nodes_of}
use Rattle.h5_builder_spec.specs.stack.Order.{IsIn}
use Rattle.h5_builder_state.specs.Listed.{IsNewestNamedAt}
use Rattle.h5_builder_spec.specs.World.{World, name_in}

-- the entry of an element, the newest one if there are more, is at this place
pub record IsEntryAt (n place : ℕ) (w : World) : Type 0 where
  pub tag : TagText
  pub newer : List Entry
  pub older : List Entry
  pub cut : w.formatting ≡ newer ++ ElementEntry n tag ∷ older
  pub first : ¬ (IsIn n (nodes_of newer))
  pub here : place ≡ length older

-- an element is listed at this place, or nowhere
abbrev pub IsListedOnlyAt : (n place : ℕ) → World → Type 0
IsListedOnlyAt n place w = IsEntryAt n place w ⊎ (¬ (IsIn n (nodes_of w.formatting)))

-- an element is open only if it is listed
abbrev pub IsOpenOnlyListed : ℕ → World → Type 0
IsOpenOnlyListed n w = IsIn n w.stack → IsIn n (nodes_of w.formatting)

-- the entry of the formatting element of a name is at this place
abbrev pub IsListedAt : List ℕ → ℕ → World → Type 0
IsListedAt name place w = IsNewestNamedAt name place w.formatting

-- the furthest block of the element at the first place is at the second
pub record IsBlockAt (n place at : ℕ) (w : World) : Type 0 where
  pub furthest : FurthestBlock
  pub found : furthest_block (λ m. is_special (name_in w.forest m)) (newer_than n w.stack) ≡ Some furthest
  pub here : at ≡ place + 1 + length furthest.between

-- all of these are nodes
abbrev pub AreNodes : Forest → List ℕ → Type 0
AreNodes f ns = (n : ℕ) → IsIn n ns → IsNode f n

-- an entry's element is a node
abbrev pub IsNodeIn : Forest → Entry → Type 0
IsNodeIn f MarkerEntry = Unit {0}
IsNodeIn f (ElementEntry n tag) = IsNode f n
