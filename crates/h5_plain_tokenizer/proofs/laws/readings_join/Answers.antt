use Rattle.h5_plain_tokenizer.proofs.ReadLaws.{read_joins}
use Rattle.h5_plain_tokenizer.proofs.laws.readings_join.Goals as goal

pub returns : goal.returns
returns g c = λ p m xs ts reply q n ys us next r o zs first goes second. read_joins g.S.TokenSink.reply_to g.S.TokenSink.after g.S.TokenSink.is_foreign first goes second
