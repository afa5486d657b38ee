use Rattle.h5_round_trip.proofs.standard.ReadingLaws.{document_tells_none}
use Rattle.h5_round_trip.proofs.laws.standard.documents_tell_no_errors.Goals as goal

pub returns : goal.returns
returns g c = λ see blind d m s told readable answers none tells.
    let S = g.S.TokenSink in
    document_tells_none S.reply_to S.after S.is_foreign S.ended (λ m n. g.L.Likeness.alike (see m) (see n)) blind d m s told readable answers none tells
