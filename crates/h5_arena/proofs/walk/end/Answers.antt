use Rattle.h5_serialize.specs.Walk.{NoCall}
use Rattle.h5_arena.proofs.walk.end.Goals as goal

pub returns-in-Some : goal.returns-in-Some
returns-in-Some g c = rw c.in-Some.is c.end_elem_ref.ensures

pub returns-in-None : goal.returns-in-None
returns-in-None g c = rw c.in-None.is NoCall
