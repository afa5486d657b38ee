use Rattle.h5_serialize.proofs.WalkLemmas.{stopped_front}
use Rattle.h5_serialize.proofs.laws.a_stopped_walk_has_written_a_front.Goals as goal

pub returns : goal.returns
returns c = λ calls m n t u fault stopped. stopped_front stopped
