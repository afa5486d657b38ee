-- The oldest entries of the list of active formatting elements, and the summaries of the oldest open elements.
use Rattle.std.specs.Prelude.{ℕ, List, take}
use Rattle.h5_builder_spec.specs.formatting.FormattingList.{Entry}
use Rattle.h5_builder_state.specs.Listed.{entries_of}
use Rattle.h5_builder_state.specs.View.{listed_node}
use Rattle.h5_builder_state.specs.declared.state.State.{State}

-- the `count` oldest entries, the newest first
unfoldable pub list_under : {H : Type 0} → (H → ℕ) → State H → ℕ → List Entry
list_under node state count = entries_of (listed_node node) (take count state.active_formatting)
