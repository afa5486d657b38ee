use Rattle.h5_tokenizer_spec.specs.WholeTelling.{more_telling}
use Rattle.h5_tokenizer_spec.proofs.ToldCutLaws.{tellings_go_on}
use Rattle.h5_tokenizer_spec.proofs.laws.tellings_join.Goals as goal

pub returns : goal.returns
returns g c = λ table p s m xs told q t n ys more r errors tellings reaches taken none.
    let S = g.S.TokenSink in
    more_telling (tellings_go_on table S.reply_to S.after S.is_foreign more tellings) reaches taken none
