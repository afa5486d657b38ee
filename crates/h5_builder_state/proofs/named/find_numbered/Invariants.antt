use Rattle.h5_builder_state.proofs.ListWalkLaws.{Walks}
use Rattle.h5_builder_state.proofs.named.find_numbered.Given as goal

abbrev pub invariant-down : goal.invariant-down
invariant-down g l = Walks l.index.numbers l.entries.items l.name l.end l.next

abbrev pub decreases-down : goal.decreases-down
decreases-down g l = l.next
