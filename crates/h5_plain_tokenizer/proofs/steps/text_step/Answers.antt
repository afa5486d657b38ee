use Rattle.std.proofs.Common.{◌≡◌, ◌+◌, arith, string_bytes}
use Rattle.std.proofs.lemmas.Result.{err_from_is_err_and}
use Rattle.h5_token.specs.TokenText.{Characters}
use Rattle.h5_tokenizer_input.specs.Lines.{newlines_passed}
use Rattle.h5_tokenizer_input.proofs.LineLaws.{few_passed}
use Rattle.h5_plain_tokenizer.specs.Steps.{place_of}
use Rattle.h5_plain_tokenizer.proofs.CountLaws.{text_lines}
use Rattle.h5_plain_tokenizer.proofs.StepLaws.{text_leads, turned, refused}
use Rattle.h5_plain_tokenizer.proofs.steps.text_step.Goals as goal

pub overflow_add-lines : goal.overflow_add-lines
overflow_add-lines g c =
    let all = rw c.as_str.ensures at c.in_ok-end.ensures in
    omega (arith, c.requires.lines, c.newlines_passed.ensures, few_passed c.args.rest.now c.in_ok-end.end.now, text_lines c.args.rest.now c.args.after.now c.in_ok-end.end.now _ _ _ c.requires.begun all)

pub returns-in_err-stopped : goal.returns-in_err-stopped
returns-in_err-stopped g c =
    let S = g.S.TokenSink in
    let p = err_from_is_err_and c.from_residual-in_err-stopped.result c.from_residual-in_err-stopped.ensures.1 in
    let all = rw c.as_str.ensures at c.in_ok-end.ensures in
    rw (p.1, p.2)
    (refused S.reply_to S.after S.is_foreign S.node (place_of c.args.state.now) (S.meaning c.args.sink.now) c.args.rest.now c.in_ok-end.end.now (Characters (string_bytes c.take_texts.new.out)) (place_of c.args.state.now) (S.meaning c.hand_on_text.new.sink) c.in_err-stopped.field-0.0
    (text_leads S.reply_to S.after S.is_foreign (place_of c.args.state.now) (S.meaning c.args.sink.now) c.args.rest.now c.args.after.now c.in_ok-end.end.now _ _ c.requires.started c.requires.begun all)
    c.in_err-stopped.ensures)

pub returns : goal.returns
returns g c =
    let S = g.S.TokenSink in
    let all = rw c.as_str.ensures at c.in_ok-end.ensures in
    let lines : c.args.lines + c.newlines_passed.result ≡ newlines_passed c.args.rest.now c.in_ok-end.end.now =
    omega (arith, c.requires.lines, c.newlines_passed.ensures, text_lines c.args.rest.now c.args.after.now c.in_ok-end.end.now _ _ _ c.requires.begun all) in
    rw c.turn.ensures
    (turned S.reply_to S.after S.is_foreign S.node (place_of c.args.state.now) (S.meaning c.args.sink.now) c.args.rest.now c.in_ok-end.end (Characters (string_bytes c.take_texts.new.out)) (place_of c.args.state.now) (S.meaning c.hand_on_text.new.sink) (c.args.lines + c.newlines_passed.result) c.in_ok-stopped.stopped lines
    (text_leads S.reply_to S.after S.is_foreign (place_of c.args.state.now) (S.meaning c.args.sink.now) c.args.rest.now c.args.after.now c.in_ok-end.end.now _ _ c.requires.started c.requires.begun all)
    c.in_ok-stopped.ensures)
