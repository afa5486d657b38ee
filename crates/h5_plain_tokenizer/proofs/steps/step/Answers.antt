use Rattle.h5_plain_tokenizer.proofs.steps.step.Goals as goal

pub text_step-requires-clause-begun : goal.text_step-requires-clause-begun
text_step-requires-clause-begun g c =
    let S = g.S.TokenSink in
    let state = c.args.state.now in
    rw c.in_ok-text.ensures
    (c.in-Some-cut_plain.ensures.begins state.mode state.last (S.is_foreign (S.meaning c.args.sink.now)))
