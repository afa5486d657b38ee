use Rattle.h5_tokenizer_spec.proofs.LineLaws.{read_counted, readings_counted}
use Rattle.h5_tokenizer_spec.proofs.laws.lines_are_counted.Goals as goal

pub returns-clause-reading : goal.returns-clause-reading
returns-clause-reading g c = λ table p m xs ts reply q n ys le read. read_counted table g.S.TokenSink.reply_to g.S.TokenSink.after g.S.TokenSink.is_foreign le read

pub returns-clause-readings : goal.returns-clause-readings
returns-clause-readings g c = λ table p m xs ts q n ys le readings. readings_counted table g.S.TokenSink.reply_to g.S.TokenSink.after g.S.TokenSink.is_foreign le readings
