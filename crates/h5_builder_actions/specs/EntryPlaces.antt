-- The list of active formatting elements in the form of the code, by places that are counted from its oldest entry.
use Rattle.std.specs.Prelude.{ℕ, ◌==◌, Bool, false, true, if◌then◌else◌, List, [], ◌∷◌, length}
use Rattle.h5_interface.specs.SinkChoices.{SinkChoices}
use Rattle.h5_builder_spec.specs.formatting.FormattingList.{Entry, ElementEntry, MarkerEntry}
use Rattle.h5_builder_spec.specs.formatting.Formatting.{insert_for}
use Rattle.h5_builder_spec.specs.stack.Order.{is_in}
use Rattle.h5_builder_spec.specs.World.{World, current}

-- the entry at a place, which is the number of older entries; a marker if there is none
abbrev pub entry_at : ℕ → List Entry → Entry
entry_at place [] = MarkerEntry
entry_at place (e ∷ l) = if length l == place then e else entry_at place l

-- the entry is that of an element
abbrev pub is_entry_of : ℕ → Entry → Bool
is_entry_of n MarkerEntry = false
is_entry_of n (ElementEntry m tag) = n == m

-- the entry stays when formatting elements are reconstructed: it is a marker, or its element is open (`s`: the open
-- elements)
abbrev pub is_staying : List ℕ → Entry → Bool
is_staying s MarkerEntry = true
is_staying s (ElementEntry n tag) = is_in n s

-- the entry with another element
abbrev pub entry_for : ℕ → Entry → Entry
entry_for n MarkerEntry = MarkerEntry
entry_for n (ElementEntry m tag) = ElementEntry n tag

-- the list with another element for the entry at a place
abbrev pub with_node_at : ℕ → ℕ → List Entry → List Entry
with_node_at place n [] = []
with_node_at place n (e ∷ l) = if length l == place then entry_for n e ∷ l else e ∷ with_node_at place n l

-- an entry gets a new element
abbrev pub renewed_by : SinkChoices → ℕ → Entry → World → World
renewed_by choices place MarkerEntry w = w
renewed_by choices place (ElementEntry n tag) w =
    let v = insert_for choices tag w in
    record v { formatting = with_node_at place (current v) v.formatting }

abbrev pub renewed : SinkChoices → ℕ → World → World
renewed choices place w = renewed_by choices place (entry_at place w.formatting) w
