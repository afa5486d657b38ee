use Rattle.h5_round_trip.proofs.standard.ReadingLaws.{document_quietly}
use Rattle.h5_round_trip.proofs.laws.standard.documents_are_read_without_errors.Goals as goal

pub returns : goal.returns
returns g c d m s readable answers none = document_quietly g.S.TokenSink.reply_to g.S.TokenSink.after g.S.TokenSink.is_foreign g.S.TokenSink.ended d m s readable answers none
