use Rattle.std.proofs.Common.{refl, string_bytes}
use Rattle.std.proofs.lemmas.Result.{err_from_is_err_and}
use Rattle.h5_token.specs.TokenText.{TagIs, tag_text}
use Rattle.h5_tokenizer_states.specs.MachineText.{place_of}
use Rattle.h5_standard_tokenizer.proofs.BareLaws.{bare_fails, bare_less, bare_turns}
use Rattle.h5_standard_tokenizer.proofs.steps.bare_step.Goals as goal

pub returns-in_err-stopped-clause-makes : goal.returns-in_err-stopped-clause-makes
returns-in_err-stopped-clause-makes g c = λ p m xs h.
    let S = g.S.TokenSink in
    let r = err_from_is_err_and c.from_residual-in_err-stopped.result c.from_residual-in_err-stopped.ensures.1 in
    rw (r.1, r.2)
    (bare_fails S.reply_to S.after S.is_foreign S.node p m xs (string_bytes c.args.emitted.now.text) c.args.emitted.now.line c.args.machine.now c.pass_bare.new.self (S.meaning c.args.sink.now) (S.meaning c.hand_on_tag.new.sink) (place_of c.hand_on_tag.new.machine) c.args.rest.now c.args.name.now c.args.after.now c.args.kind (TagIs (tag_text c.in_ok-tag.tag)) c.began-line.result c.in_err-stopped.field-0.0
    c.requires.data c.in_ok-tag.ensures.fits c.requires.tag c.in_ok-tag.ensures.others c.in_ok-tag.ensures.tag c.began-line.ensures c.requires.none h c.in_err-stopped.ensures)

pub returns-clause-makes : goal.returns-clause-makes
returns-clause-makes g c = λ p m xs h.
    let S = g.S.TokenSink in
    rw c.progress_of.ensures
    (bare_turns S.reply_to S.after S.is_foreign S.node p m xs (string_bytes c.args.emitted.now.text) (string_bytes c.args.emitted.now.text) c.args.emitted.now.line c.args.machine.now c.pass_bare.new.self (S.meaning c.args.sink.now) (S.meaning c.hand_on_tag.new.sink) (place_of c.hand_on_tag.new.machine) c.args.rest.now c.args.name.now c.args.after c.args.kind (TagIs (tag_text c.in_ok-tag.tag)) c.began-line.result c.began-emitted.result c.in_ok-stopped.stopped
    c.requires.data c.in_ok-tag.ensures.fits c.requires.tag c.in_ok-tag.ensures.others c.in_ok-tag.ensures.tag c.began-line.ensures c.requires.none refl c.began-emitted.ensures h c.in_ok-stopped.ensures)

pub returns-clause-less : goal.returns-clause-less
returns-clause-less g c = rw c.progress_of.ensures (bare_less (place_of c.args.machine.now) (place_of c.hand_on_tag.new.machine) c.args.rest.now c.args.kind c.args.name.now c.args.after c.in_ok-stopped.stopped c.requires.tag)
