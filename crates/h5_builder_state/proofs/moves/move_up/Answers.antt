use Rattle.std.proofs.Common.{arith}
use Rattle.h5_builder_state.proofs.moves.move_up.Goals as goal

pub insert-requires : goal.insert-requires
insert-requires g c = omega (arith, c.requires.order, c.requires.inside, c.remove-item.ensures.len)
