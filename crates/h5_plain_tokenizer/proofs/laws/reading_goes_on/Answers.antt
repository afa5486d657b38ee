use Rattle.h5_plain_tokenizer.proofs.ReadLaws.{read_goes_on}
use Rattle.h5_plain_tokenizer.proofs.laws.reading_goes_on.Goals as goal

pub returns : goal.returns
returns g c = λ p m xs ts reply q n ys more read. read_goes_on g.S.TokenSink.reply_to g.S.TokenSink.after g.S.TokenSink.is_foreign more read
