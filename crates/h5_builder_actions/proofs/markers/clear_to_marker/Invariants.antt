use Rattle.std.proofs.Common.{◌≡◌, ◌++◌, ℕ, List, length}
use Rattle.h5_tables.specs.declared.entry.FormatEntry.{FormatEntry}
use Rattle.h5_builder_spec.specs.formatting.FormattingList.{clear_to_marker}
use Rattle.h5_builder_state.specs.Listed.{entries_of}
use Rattle.h5_builder_actions.proofs.markers.clear_to_marker.Given as goal

-- what is left gives what was to come at first
abbrev pub invariant-clear : goal.invariant-clear
invariant-clear g l = record {
  cleared : (node : g.row.Handle.Denot → ℕ) → clear_to_marker (entries_of node l.entries) ≡ clear_to_marker (entries_of node l.fn.entries);
  older : (newer : List (FormatEntry g.row.Handle.Denot)) × (l.fn.entries ≡ l.entries ++ newer);
}

abbrev pub decreases-clear : goal.decreases-clear
decreases-clear g l = length l.entries
