use Rattle.h5_plain_tokenizer.proofs.WholeLaws.{pieces_join}
use Rattle.h5_plain_tokenizer.proofs.laws.pieces_join.Goals as goal

pub returns : goal.returns
returns g c = λ p m xs ts q n ys more us reply r o zs readings read goes. pieces_join g.S.TokenSink.reply_to g.S.TokenSink.after g.S.TokenSink.is_foreign more readings read goes
