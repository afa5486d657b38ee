use Rattle.h5_round_trip.proofs.ReadingLaws.{document_read}
use Rattle.h5_round_trip.proofs.laws.documents_are_read.Goals as goal

pub returns : goal.returns
returns g c = document_read g.S.TokenSink.reply_to g.S.TokenSink.after g.S.TokenSink.is_foreign g.S.TokenSink.ended
