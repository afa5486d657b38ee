use Rattle.std.proofs.Common.{◌+◌}
use Rattle.h5_builder_state.specs.Numbered.{numbers}
use Rattle.h5_token.specs.TokenText.{tag_text}
use Rattle.h5_builder_state.proofs.SurplusLaws.{WalksKeys}
use Rattle.h5_builder_state.proofs.surplus.find_by_key.Given as goal

abbrev pub invariant-down : goal.invariant-down
invariant-down g l = WalksKeys l.entries.items (numbers l.keys) (tag_text l.tag) l.number l.end l.keyed l.unkeyed l.found

abbrev pub decreases-down : goal.decreases-down
decreases-down g l = l.keyed + l.unkeyed
