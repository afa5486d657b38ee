use Rattle.std.proofs.Common.{inr}
use Rattle.h5_serialize.proofs.WalkSteps.{walk_start, walk_starved}
use Rattle.h5_serialize.proofs.serializer.Serializer.start_elem_ref.Goals as goal

pub returns-in_err-clone : goal.returns-in_err-clone
returns-in_err-clone g c = inr (λ attrs. walk_starved g.Self.Serializer.answer g.Self.Serializer.after g.Self.Serializer.writes g.Self.Serializer.breaks _ _ _ _ c.from_residual.ensures.1)

pub returns : goal.returns
returns g c = walk_start g.Self.Serializer.answer g.Self.Serializer.after g.Self.Serializer.writes g.Self.Serializer.breaks _ _ _ _ (rw c.in_ok-clone.ensures at c.start_elem.ensures)
