use Rattle.h5_round_trip.proofs.InsideLaws.{texts_stay}
use Rattle.h5_round_trip.proofs.laws.texts_stay_in_their_box.Goals as goal

pub returns : goal.returns
returns c = texts_stay
