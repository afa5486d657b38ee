use Rattle.h5_builder_state.proofs.ListWalkLaws.{WalksNames}
use Rattle.h5_builder_state.proofs.named.find_among_all.Given as goal

abbrev pub invariant-down : goal.invariant-down
invariant-down g l = WalksNames l.entries.items l.name l.end l.next

abbrev pub decreases-down : goal.decreases-down
decreases-down g l = l.next
