use Rattle.h5_tokenizer_spec.proofs.WholeLaws.{end_ends}
use Rattle.h5_tokenizer_spec.proofs.laws.the_end_ends_readings.Goals as goal

pub returns : goal.returns
returns g c = λ table p m xs ts q n o readings closes.
    let S = g.S.TokenSink in
    end_ends S.reply_to S.after S.ended table S.is_foreign p m xs ts q n o readings closes
