use Rattle.std.proofs.Common.{string_bytes, ◌∙◌, arith}
use Rattle.std.proofs.lemmas.Result.{err_from_is_err_and}
use Rattle.h5_tokenizer_states.specs.MachineText.{place_of}
use Rattle.h5_standard_tokenizer.proofs.OpeningLaws.{opening_less, took_opening}
use Rattle.h5_standard_tokenizer.proofs.TakeLaws.{holds_run, less_behind_run, none_held, passes_less}
use Rattle.h5_standard_tokenizer.proofs.steps.step.Goals as goal

pub returns-in_default-clause-makes : goal.returns-in_default-clause-makes
returns-in_default-clause-makes g c = λ p m xs h.
    let S = g.S.TokenSink in
    holds_run S.reply_to S.after S.is_foreign c.in_ok-rest.ensures.passes h

pub returns-in_err-stop-clause-makes : goal.returns-in_err-stop-clause-makes
returns-in_err-stop-clause-makes g c = λ p m xs h.
    let S = g.S.TokenSink in
    let r = err_from_is_err_and c.from_residual-in_err-stop.result c.from_residual-in_err-stop.ensures.1 in
    rw (r.1, r.2)
    (c.in_err-stop.ensures.handed p (place_of c.pass.new.machine) m xs c.in_ok-rest.rest.now (holds_run S.reply_to S.after S.is_foreign c.in_ok-rest.ensures.passes h))

pub returns-in-Some-2-clause-makes : goal.returns-in-Some-2-clause-makes
returns-in-Some-2-clause-makes g c = λ p m xs h.
    let S = g.S.TokenSink in
    let leads = c.in_ok-stop.ensures.handed p (place_of c.pass.new.machine) m xs c.in_ok-rest.rest.now (holds_run S.reply_to S.after S.is_foreign c.in_ok-rest.ensures.passes h) in
    rw c.in-Some-2.is at leads

pub returns-in-Some-find_bare-clause-makes : goal.returns-in-Some-find_bare-clause-makes
returns-in-Some-find_bare-clause-makes g c = λ p m xs h.
    let S = g.S.TokenSink in
    let leads = c.in_ok-stop.ensures.handed p (place_of c.pass.new.machine) m xs c.in_ok-rest.rest.now (holds_run S.reply_to S.after S.is_foreign c.in_ok-rest.ensures.passes h) in
    c.bare_step.ensures.makes p m xs (none_held S.reply_to S.after S.is_foreign c.in_ok-stop.ensures.text (c.hand_on.ensures.line ∙ c.began.ensures) (rw c.in_default-2.is at leads))

pub returns-in-Some-find_bare-clause-less : goal.returns-in-Some-find_bare-clause-less
returns-in-Some-find_bare-clause-less g c =
    less_behind_run c.args.machine.now c.pass.new.machine c.args.rest.now c.in_ok-rest.rest.now (string_bytes c.args.emitted.now.text) (string_bytes c.pass.new.out) (place_of c.bare_step.new.machine) c.bare_step.result c.in_ok-rest.ensures.passes c.bare_step.ensures.less

pub returns-in-Some-find_opening-clause-makes : goal.returns-in-Some-find_opening-clause-makes
returns-in-Some-find_opening-clause-makes g c = λ p m xs h.
    let S = g.S.TokenSink in
    let leads = c.in_ok-stop.ensures.handed p (place_of c.pass.new.machine) m xs c.in_ok-rest.rest.now (holds_run S.reply_to S.after S.is_foreign c.in_ok-rest.ensures.passes h) in
    let found = c.in-Some-find_opening in
    holds_run S.reply_to S.after S.is_foreign
    (took_opening c.pass.new.machine c.pass_opening.new.self c.in_ok-rest.rest.now found.name.now found.after.now (string_bytes c.hand_on.new.self.text) found.ensures.0 c.in_ok-pass_opening.ensures.fits found.ensures.1 c.in_ok-pass_opening.ensures.others)
    (none_held S.reply_to S.after S.is_foreign c.in_ok-stop.ensures.text (c.hand_on.ensures.line ∙ c.began.ensures) (rw c.in_default-2.is at leads))

pub returns-in-Some-find_opening-clause-less : goal.returns-in-Some-find_opening-clause-less
returns-in-Some-find_opening-clause-less g c =
    let found = c.in-Some-find_opening in
    omega (arith, passes_less c.in_ok-rest.ensures.passes, opening_less (place_of c.pass.new.machine) (place_of c.pass_opening.new.self) c.in_ok-rest.rest.now found.name.now found.after.now found.ensures.1)

pub returns-clause-makes : goal.returns-clause-makes
returns-clause-makes g c = λ p m xs h.
    let S = g.S.TokenSink in
    let leads = c.in_ok-stop.ensures.handed p (place_of c.pass.new.machine) m xs c.in_ok-rest.rest.now (holds_run S.reply_to S.after S.is_foreign c.in_ok-rest.ensures.passes h) in
    c.byte_step.ensures.makes p m xs (none_held S.reply_to S.after S.is_foreign c.in_ok-stop.ensures.text (c.hand_on.ensures.line ∙ c.began.ensures) (rw c.in_default-2.is at leads))

pub returns-clause-less : goal.returns-clause-less
returns-clause-less g c =
    less_behind_run c.args.machine.now c.pass.new.machine c.args.rest.now c.in_ok-rest.rest.now (string_bytes c.args.emitted.now.text) (string_bytes c.pass.new.out) (place_of c.byte_step.new.machine) c.byte_step.result c.in_ok-rest.ensures.passes c.byte_step.ensures.less
