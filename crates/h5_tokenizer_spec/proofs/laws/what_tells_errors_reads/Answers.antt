use Rattle.h5_tokenizer_spec.proofs.TellingLaws.{reaches_read}
use Rattle.h5_tokenizer_spec.proofs.laws.what_tells_errors_reads.Goals as goal

pub returns : goal.returns
returns g c = λ table p s m xs r told h. reaches_read table g.S.TokenSink.reply_to g.S.TokenSink.after g.S.TokenSink.is_foreign h
