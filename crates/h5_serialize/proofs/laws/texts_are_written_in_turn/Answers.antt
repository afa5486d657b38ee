use Rattle.h5_serialize.proofs.EachLaws.{made_writes}
use Rattle.h5_serialize.proofs.laws.texts_are_written_in_turn.Goals as goal

pub returns : goal.returns
returns g c = λ calls m n t u made. made_writes g.S.Serializer.answer g.S.Serializer.after g.S.Serializer.writes g.S.Serializer.breaks made
