use Rattle.h5_plain_tokenizer.proofs.WholeLaws.{feeds_join}
use Rattle.h5_plain_tokenizer.proofs.laws.feeds_join.Goals as goal

pub returns : goal.returns
returns g c = λ p m xs more q n ys new o queue answer had fed. feeds_join g.S.TokenSink.reply_to g.S.TokenSink.after g.S.TokenSink.is_foreign g.S.TokenSink.node p m xs more q n ys new o queue answer had fed
