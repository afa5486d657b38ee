use Rattle.std.proofs.Common.{◌-◌, ◌<◌, ◌≤◌, ◌+◌, ◌≡◌, length, reverse, take}
use Rattle.h5_builder_state.specs.Items.{numbers_of}
use Rattle.h5_builder_state.specs.Numbered.{newest_of}
use Rattle.h5_builder_state.proofs.places.next_newer.Given as goal

-- no item of the number stands between
abbrev pub invariant-up : goal.invariant-up
invariant-up g l = record {
  count : l.count ≡ length l.items.items;
  high : l.next ≤ l.count;
  above : l.place < l.next;
  first : newest_of l.number (reverse (take l.next (numbers_of l.items.items))) ≤ l.place + 1;
}

abbrev pub decreases-up : goal.decreases-up
decreases-up g l = l.count - l.next
