use Rattle.std.proofs.Common.{◌≡◌, ◌≤◌, length}
use Rattle.h5_builder_state.specs.Items.{AreLinked}
use Rattle.h5_builder_state.proofs.places.take_back.Given as goal

abbrev pub invariant-down : goal.invariant-down
invariant-down g l = record {
  high : l.place ≤ l.left;
  low : l.left ≤ length l.items.items;
  linked : AreLinked l.items.items l.table.items l.left;
  room : length l.table.items ≡ length l.initial.table.items;
}

abbrev pub decreases-down : goal.decreases-down
decreases-down g l = l.left
