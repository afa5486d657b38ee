use Rattle.h5_round_trip.proofs.JoinedLaws.{document_joined}
use Rattle.h5_round_trip.proofs.laws.texts_of_documents_stand_apart.Goals as goal

pub returns : goal.returns
returns c = document_joined
