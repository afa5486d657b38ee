use Rattle.std.proofs.Common.{◌≡◌, ◌-◌, ◌≤◌, length}
use Rattle.h5_builder_state.specs.Items.{AreLinked, stack_of}
use Rattle.h5_builder_state.proofs.places.put_back.Given as goal

abbrev pub invariant-up : goal.invariant-up
invariant-up g l = record {
  high : l.next ≤ l.count;
  same : stack_of l.items.items ≡ stack_of l.initial.items.items;
  linked : AreLinked l.items.items l.table.items l.next;
  room : length l.table.items ≡ length l.initial.table.items;
}

abbrev pub decreases-up : goal.decreases-up
decreases-up g l = l.count - l.next
