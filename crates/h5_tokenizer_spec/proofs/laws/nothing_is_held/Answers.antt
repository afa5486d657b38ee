use Rattle.h5_tokenizer_spec.proofs.AllLaws.{reads_all}
use Rattle.h5_tokenizer_spec.proofs.laws.nothing_is_held.Goals as goal

pub returns : goal.returns
returns g c = λ table p m xs. reads_all table g.S.TokenSink.reply_to g.S.TokenSink.after g.S.TokenSink.is_foreign p m xs
