use Rattle.std.proofs.Common.{◌+◌, ◌-◌, vec_len}
use Rattle.h5_arena.proofs.shared.make_slots.Given as goal

abbrev pub decreases-loop-slots : goal.decreases-loop-slots
decreases-loop-slots l = (l.last + 1) - vec_len l.slots
