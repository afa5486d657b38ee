use Rattle.h5_tokenizer_spec.proofs.AllLaws.{read_to_end}
use Rattle.h5_tokenizer_spec.proofs.laws.any_input_is_read_to_its_end.Goals as goal

pub returns : goal.returns
returns g c = λ taken table p m xs.
    let S = g.S.TokenSink in
    read_to_end table S.reply_to S.after S.is_foreign S.ended taken p m xs
