use Rattle.h5_serialize.proofs.EachLaws.{made_means}
use Rattle.h5_serialize.proofs.laws.calls_are_taken_in_turn.Goals as goal

pub returns : goal.returns
returns g c = λ calls m n t u made. made_means g.S.Serializer.answer g.S.Serializer.after g.S.Serializer.writes g.S.Serializer.breaks made
