-- The stack that items represent.
use Rattle.std.specs.Prelude.{ℕ, List, map}
use Rattle.h5_builder_state.specs.Numbered.{Numbered, numbers, one_of}
use Rattle.h5_builder_state.specs.Places.{IsLinked, IsPlaced, IsReached}
use Rattle.h5_builder_state.specs.declared.item.Item.{Item}

abbrev pub numbered : {T : Type 0} → Item T → Numbered T
numbered item = one_of item.number item.value

abbrev pub stack_of : {T : Type 0} → List (Item T) → List (Numbered T)
stack_of {T} items = map (λ (item : Item T). numbered item) items

abbrev pub numbers_of : {T : Type 0} → List (Item T) → List ℕ
numbers_of items = numbers (stack_of items)

abbrev pub links_of : {T : Type 0} → List (Item T) → List ℕ
links_of {T} items = map (λ (item : Item T). item.older) items

-- of the `count` oldest items the links are right, and so is the table for them
abbrev pub AreLinked : {T : Type 0} → List (Item T) → List ℕ → ℕ → Type 0
AreLinked items table count = IsLinked (numbers_of items) (links_of items) table count

abbrev pub AreReached : {T : Type 0} → List (Item T) → List ℕ → Type 0
AreReached items table = IsReached (numbers_of items) table

-- the links of all items are right, and so is the table
abbrev pub ArePlaced : {T : Type 0} → List (Item T) → List ℕ → Type 0
ArePlaced items table = IsPlaced (numbers_of items) (links_of items) table
