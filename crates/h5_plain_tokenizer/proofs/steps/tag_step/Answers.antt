use Rattle.std.proofs.Common.{sym}
use Rattle.std.proofs.lemmas.Result.{err_from_is_err_and}
use Rattle.h5_token.specs.TokenText.{TagIs, tag_text}
use Rattle.h5_plain_tokenizer.specs.Steps.{place_of}
use Rattle.h5_plain_tokenizer.proofs.StepLaws.{token_leads, turned, refused}
use Rattle.h5_plain_tokenizer.proofs.steps.tag_step.Goals as goal

pub returns-in_err-stopped : goal.returns-in_err-stopped
returns-in_err-stopped g c =
    let S = g.S.TokenSink in
    let p = err_from_is_err_and c.from_residual.result c.from_residual.ensures.1 in
    rw (p.1, p.2)
    (refused S.reply_to S.after S.is_foreign S.node (place_of c.args.state.now) (S.meaning c.args.sink.now) c.args.rest.now c.args.after.now (TagIs (tag_text c.args.tag)) (place_of c.hand_on_tag.new.state) (S.meaning c.hand_on_tag.new.sink) c.in_err-stopped.field-0.0
    (token_leads S.reply_to S.after S.is_foreign (place_of c.args.state.now) (S.meaning c.args.sink.now) c.args.rest.now c.args.after.now (TagIs (tag_text c.args.tag)) c.requires.started c.requires.front)
    c.in_err-stopped.ensures)

pub returns : goal.returns
returns g c =
    let S = g.S.TokenSink in
    rw c.turn.ensures
    (turned S.reply_to S.after S.is_foreign S.node (place_of c.args.state.now) (S.meaning c.args.sink.now) c.args.rest.now c.args.after (TagIs (tag_text c.args.tag)) (place_of c.hand_on_tag.new.state) (S.meaning c.hand_on_tag.new.sink) 0 c.in_ok-stopped.stopped (sym c.requires.line)
    (token_leads S.reply_to S.after S.is_foreign (place_of c.args.state.now) (S.meaning c.args.sink.now) c.args.rest.now c.args.after.now (TagIs (tag_text c.args.tag)) c.requires.started c.requires.front)
    c.in_ok-stopped.ensures)
