use Rattle.std.proofs.Common.{◌-◌, vec_len}
use Rattle.h5_markup.specs.declared.shared_names.TheConstants.{SLOTS}
use Rattle.h5_markup.proofs.shared_names.make_slots.Given as goal

abbrev pub decreases-loop-slots : goal.decreases-loop-slots
decreases-loop-slots l = SLOTS - vec_len l.slots
