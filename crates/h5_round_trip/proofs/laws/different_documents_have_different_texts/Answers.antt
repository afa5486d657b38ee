use Rattle.h5_round_trip.proofs.TellsLaws.{texts_tell}
use Rattle.h5_round_trip.proofs.laws.different_documents_have_different_texts.Goals as goal

pub returns : goal.returns
returns c = texts_tell
