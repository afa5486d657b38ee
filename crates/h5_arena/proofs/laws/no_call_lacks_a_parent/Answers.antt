use Rattle.h5_arena.proofs.BalanceLaws.{no_orphan_in_walk}
use Rattle.h5_arena.proofs.laws.no_call_lacks_a_parent.Goals as goal

pub returns : goal.returns
returns c = no_orphan_in_walk
