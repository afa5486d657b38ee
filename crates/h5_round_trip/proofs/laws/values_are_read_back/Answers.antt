use Rattle.h5_round_trip.proofs.CharLaws.{value_read}
use Rattle.h5_round_trip.proofs.laws.values_are_read_back.Goals as goal

pub returns : goal.returns
returns c = value_read
