use Rattle.h5_plain_tokenizer.proofs.CountLaws.{read_line, readings_line, last_line}
use Rattle.h5_plain_tokenizer.proofs.laws.lines_are_counted.Goals as goal

pub returns-clause-reading : goal.returns-clause-reading
returns-clause-reading g c = λ p m xs ts reply q n ys le read. read_line g.S.TokenSink.reply_to g.S.TokenSink.after g.S.TokenSink.is_foreign le read

pub returns-clause-readings : goal.returns-clause-readings
returns-clause-readings g c = λ p m xs ts q n ys le readings.
    let S = g.S.TokenSink in
    (readings_line S.reply_to S.after S.is_foreign le readings, last_line S.reply_to S.after S.is_foreign le readings)
