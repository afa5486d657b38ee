use Rattle.h5_tokenizer_spec.proofs.CutLaws.{cuts_agree}
use Rattle.h5_tokenizer_spec.proofs.laws.cuts_of_the_input_agree.Goals as goal

pub returns : goal.returns
returns g c = λ see blind table p m n xs ts us k l like first second.
    let S = g.S.TokenSink in
    cuts_agree S.reply_to S.after S.is_foreign S.ended (λ m n. g.L.Likeness.alike (see m) (see n)) blind table p m n xs ts us k l like first second
