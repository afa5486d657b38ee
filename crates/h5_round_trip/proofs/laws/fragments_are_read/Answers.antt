use Rattle.h5_round_trip.proofs.ReadingLaws.{fragment_read}
use Rattle.h5_round_trip.proofs.ShapeLaws.{shape}
use Rattle.h5_round_trip.proofs.laws.fragments_are_read.Goals as goal

pub returns : goal.returns
returns g c nodes m plain readable unmarked answers =
    fragment_read g.S.TokenSink.reply_to g.S.TokenSink.after g.S.TokenSink.is_foreign g.S.TokenSink.ended nodes m (shape nodes plain) readable unmarked answers
