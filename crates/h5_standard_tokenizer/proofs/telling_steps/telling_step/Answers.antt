use Rattle.std.proofs.Common.{rules, ◌≡◌, ◌∷◌, drop, string_bytes}
use Rattle.std.proofs.lemmas.Result.{err_from_is_err_and}
use Rattle.h5_standard_tokenizer.specs.Telling.{up_to}
use Rattle.h5_standard_tokenizer.proofs.TellingLaws.{tells_dropped}
use Rattle.h5_standard_tokenizer.proofs.telling_steps.telling_step.Goals as goal

pub returns-in_err-after-clause-makes : goal.returns-in_err-after-clause-makes
returns-in_err-after-clause-makes g c = λ start first h.
    let r = err_from_is_err_and c.from_residual.result c.from_residual.ensures.1 in
    rw (r.1, r.2) (up_to h.came)

pub returns-then-is_dropped-clause-makes : goal.returns-then-is_dropped-clause-makes
returns-then-is_dropped-clause-makes g c = λ start first h.
    let S = g.S.TokenSink in
    let front : c.args.rest.now ≡ c.in-Some.b.now ∷ drop 1 c.args.rest.now = search rules in
    tells_dropped S.reply_to S.after S.is_foreign g.E.ErrorSink.Told start first c.args.machine.now c.drop_step.new.machine c.in-Some.b.now (string_bytes c.args.emitted.now.text) (string_bytes c.drop_step.new.out) c.args.rest.now c.in_ok-after.after.now c.args.emitted.now.line
    c.args.spot.now c.drop_step.new.spot (S.meaning c.args.sink.now) c.args.errors.now front c.in_ok-after.ensures.rest c.drop_step.ensures.spot c.in_ok-after.ensures.drops h

pub returns-in_err-stop-clause-makes : goal.returns-in_err-stop-clause-makes
returns-in_err-stop-clause-makes g c = λ start first h.
    let r = err_from_is_err_and c.from_residual-in_err-stop.result c.from_residual-in_err-stop.ensures.1 in
    rw (r.1, r.2) (c.in_err-stop.ensures.handed start first c.args.spot.now c.args.rest.now h)

pub returns-in-Some-2-clause-makes : goal.returns-in-Some-2-clause-makes
returns-in-Some-2-clause-makes g c = λ start first h.
    let leads = c.in_ok-stop.ensures.handed start first c.args.spot.now c.args.rest.now h in
    rw c.in-Some-2.is at leads

pub returns-clause-makes : goal.returns-clause-makes
returns-clause-makes g c = λ start first h.
    let leads = c.in_ok-stop.ensures.handed start first c.args.spot.now c.args.rest.now h in
    c.front_step.ensures.makes start first (rw c.in_default-2.is at leads)
