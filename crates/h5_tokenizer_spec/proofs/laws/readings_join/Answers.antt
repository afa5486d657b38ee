use Rattle.h5_tokenizer_spec.proofs.ReadLaws.{read_joins}
use Rattle.h5_tokenizer_spec.proofs.laws.readings_join.Goals as goal

pub returns : goal.returns
returns g c = λ table p m xs ts reply q n ys us next r o zs first on second. read_joins table g.S.TokenSink.reply_to g.S.TokenSink.after g.S.TokenSink.is_foreign first on second
