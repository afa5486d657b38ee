use Rattle.std.proofs.Common.{arith}
use Rattle.std.proofs.lemmas.Result.{err_from_is_err_and}
use Rattle.h5_token.specs.TokenText.{token_text}
use Rattle.h5_markup.proofs.TextTakes.{found_shorter}
use Rattle.h5_plain_tokenizer.specs.Front.{Whole}
use Rattle.h5_plain_tokenizer.specs.Steps.{place_of}
use Rattle.h5_plain_tokenizer.proofs.FrontTakes.{front_eats}
use Rattle.h5_plain_tokenizer.proofs.StepLaws.{token_leads, turned, refused}
use Rattle.h5_plain_tokenizer.proofs.steps.token_step.Goals as goal

pub newlines_passed-requires : goal.newlines_passed-requires
newlines_passed-requires g c =
    let S = g.S.TokenSink in
    let less = found_shorter (Whole (token_text c.args.token)) c.args.rest.now c.args.after.now (front_eats c.args.state.now.mode c.args.state.now.last (S.is_foreign (S.meaning c.args.sink.now))) c.requires.front in
    omega (arith, less)

pub returns-in_err-stopped : goal.returns-in_err-stopped
returns-in_err-stopped g c =
    let S = g.S.TokenSink in
    let p = err_from_is_err_and c.from_residual.result c.from_residual.ensures.1 in
    rw (p.1, p.2)
    (refused S.reply_to S.after S.is_foreign S.node (place_of c.args.state.now) (S.meaning c.args.sink.now) c.args.rest.now c.args.after.now (token_text c.args.token) (place_of c.hand_on.new.state) (S.meaning c.hand_on.new.sink) c.in_err-stopped.field-0.0
    (token_leads S.reply_to S.after S.is_foreign (place_of c.args.state.now) (S.meaning c.args.sink.now) c.args.rest.now c.args.after.now (token_text c.args.token) c.requires.started c.requires.front)
    c.in_err-stopped.ensures)

pub returns : goal.returns
returns g c =
    let S = g.S.TokenSink in
    rw c.turn.ensures
    (turned S.reply_to S.after S.is_foreign S.node (place_of c.args.state.now) (S.meaning c.args.sink.now) c.args.rest.now c.args.after (token_text c.args.token) (place_of c.hand_on.new.state) (S.meaning c.hand_on.new.sink) c.newlines_passed.result c.in_ok-stopped.stopped c.newlines_passed.ensures
    (token_leads S.reply_to S.after S.is_foreign (place_of c.args.state.now) (S.meaning c.args.sink.now) c.args.rest.now c.args.after.now (token_text c.args.token) c.requires.started c.requires.front)
    c.in_ok-stopped.ensures)
