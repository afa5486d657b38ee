use Rattle.h5_tokenizer_spec.proofs.TellingLaws.{reaches_goes_on, reaches_join}
use Rattle.h5_tokenizer_spec.proofs.laws.told_pieces_join.Goals as goal

pub returns : goal.returns
returns g c = λ table p s m xs more q r told errors first on none second.
    let S = g.S.TokenSink in
    reaches_join table S.reply_to S.after S.is_foreign (reaches_goes_on table S.reply_to S.after S.is_foreign more first) on none second
