use Rattle.h5_plain_tokenizer.proofs.ProperLaws.{read_proper}
use Rattle.h5_plain_tokenizer.proofs.laws.no_errors_and_no_empty_texts.Goals as goal

pub returns : goal.returns
returns g c = λ p m xs ts reply q n ys read. read_proper g.S.TokenSink.reply_to g.S.TokenSink.after g.S.TokenSink.is_foreign read
