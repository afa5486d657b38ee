use Rattle.std.proofs.Common.{◌≡◌, ◌≢◌, ◌<◌, ◌≤◌, ℕ, get_or, length}
use Rattle.h5_tables.specs.declared.entry.FormatEntry.{FormatEntry}
use Rattle.h5_builder_state.specs.ListNumbers.{entry_number}
use Rattle.h5_builder_state.proofs.numbers.after_markers.Given as goal

-- a passed entry isn't a marker
abbrev pub invariant-down : goal.invariant-down
invariant-down g l = record {
  within : l.place ≤ length l.entries.items;
  elements : (k : ℕ) (x : FormatEntry _) → l.place ≤ k → k < length l.entries.items → x ≡ get_or l.entries.items k x → entry_number x ≢ 0;
}

abbrev pub decreases-down : goal.decreases-down
decreases-down g l = l.place
