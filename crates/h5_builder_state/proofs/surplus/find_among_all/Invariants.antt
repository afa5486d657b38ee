use Rattle.h5_token.specs.TokenText.{tag_text}
use Rattle.h5_builder_state.proofs.SurplusLaws.{WalksAll}
use Rattle.h5_builder_state.proofs.surplus.find_among_all.Given as goal

abbrev pub invariant-down : goal.invariant-down
invariant-down g l = WalksAll l.entries.items (tag_text l.tag) l.end l.next l.found

abbrev pub decreases-down : goal.decreases-down
decreases-down g l = l.next
