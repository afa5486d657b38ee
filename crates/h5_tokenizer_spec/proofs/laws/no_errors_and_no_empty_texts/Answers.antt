use Rattle.h5_tokenizer_spec.proofs.ReadLaws.{read_proper}
use Rattle.h5_tokenizer_spec.proofs.laws.no_errors_and_no_empty_texts.Goals as goal

pub returns : goal.returns
returns g c = λ table p m xs ts reply q n ys read. read_proper table g.S.TokenSink.reply_to g.S.TokenSink.after g.S.TokenSink.is_foreign read
