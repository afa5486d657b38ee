use Rattle.h5_round_trip.proofs.ShapeLaws.{shape}
use Rattle.h5_round_trip.proofs.standard.ReadingLaws.{fragment_read}
use Rattle.h5_round_trip.proofs.laws.standard.fragments_are_read.Goals as goal

pub returns : goal.returns
returns g c nodes m plain readable cuts answers =
    let r = fragment_read g.S.TokenSink.reply_to g.S.TokenSink.after g.S.TokenSink.is_foreign g.S.TokenSink.ended nodes m (shape nodes plain) readable cuts answers in
    (r.tokens, (r.joined, (r.meaning, r.reads)))
