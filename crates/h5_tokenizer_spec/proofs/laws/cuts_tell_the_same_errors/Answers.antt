use Rattle.h5_tokenizer_spec.proofs.ToldCutLaws.{told_agree}
use Rattle.h5_tokenizer_spec.proofs.laws.cuts_tell_the_same_errors.Goals as goal

pub returns : goal.returns
returns g c = λ see blind table p s m n xs told others like first second.
    let S = g.S.TokenSink in
    told_agree S.reply_to S.after S.is_foreign S.ended (λ m n. g.L.Likeness.alike (see m) (see n)) blind table p s m n xs told others like first second
