use Rattle.h5_tokenizer_spec.proofs.WholeLaws.{pieces_join}
use Rattle.h5_tokenizer_spec.proofs.laws.pieces_join.Goals as goal

pub returns : goal.returns
returns g c = λ table p m xs ts q n ys more us reply r o zs readings read taken. pieces_join table g.S.TokenSink.reply_to g.S.TokenSink.after g.S.TokenSink.is_foreign more readings read taken
