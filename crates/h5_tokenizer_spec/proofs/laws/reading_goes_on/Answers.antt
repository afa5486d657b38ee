use Rattle.h5_tokenizer_spec.proofs.ReadLaws.{read_goes_on}
use Rattle.h5_tokenizer_spec.proofs.laws.reading_goes_on.Goals as goal

pub returns : goal.returns
returns g c = λ table p m xs ts reply q n ys more read. read_goes_on table g.S.TokenSink.reply_to g.S.TokenSink.after g.S.TokenSink.is_foreign more read
