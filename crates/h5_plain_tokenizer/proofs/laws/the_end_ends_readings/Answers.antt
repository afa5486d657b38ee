use Rattle.h5_plain_tokenizer.proofs.WholeLaws.{end_ends}
use Rattle.h5_plain_tokenizer.proofs.laws.the_end_ends_readings.Goals as goal

pub returns : goal.returns
returns g c = λ p m xs ts q n ys o readings waits closes. end_ends g.S.TokenSink.reply_to g.S.TokenSink.after g.S.TokenSink.is_foreign g.S.TokenSink.ended p m xs ts q n ys o readings waits closes
