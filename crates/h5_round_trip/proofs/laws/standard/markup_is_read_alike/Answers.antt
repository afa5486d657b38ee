use Rattle.h5_round_trip.proofs.standard.MarkupLaws.{page_read}
use Rattle.h5_round_trip.proofs.standard.PlainMarkupLaws.{plain_page_read}
use Rattle.h5_round_trip.proofs.laws.standard.markup_is_read_alike.Goals as goal

pub returns : goal.returns
returns g c marks m are answers = (
  plain_page_read g.S.TokenSink.reply_to g.S.TokenSink.after g.S.TokenSink.is_foreign g.S.TokenSink.ended marks m are answers,
  page_read g.S.TokenSink.reply_to g.S.TokenSink.after g.S.TokenSink.is_foreign g.S.TokenSink.ended marks m are answers,
)
