use Rattle.std.proofs.Common.{◌∙◌, length, subst, sym}
use Rattle.std.proofs.lemmas.Bool.{eqb-true}
use Rattle.std.proofs.lemmas.List.{nil_from_length}
use Rattle.std.proofs.lemmas.Result.{err_from_is_err_and}
use Rattle.h5_tokenizer_states.specs.MachineText.{place_of}
use Rattle.h5_standard_tokenizer.specs.Steps.{ReadsOn}
use Rattle.h5_standard_tokenizer.proofs.HoldLaws.{nothing_is_read}
use Rattle.h5_standard_tokenizer.proofs.TakeLaws.{none_held}
use Rattle.h5_standard_tokenizer.proofs.steps.read_piece.Goals as goal

pub steps-init : goal.steps-init
steps-init g c =
    let S = g.S.TokenSink in
    record {
      utf8 = c.utf8.piece;
      holds = none_held S.reply_to S.after S.is_foreign c.new-emitted.ensures.text (c.new-emitted.ensures.line ∙ c.began.ensures)
          (nothing_is_read S.reply_to S.after S.is_foreign (place_of c.args.machine.now) (S.meaning c.args.sink.now) c.args.piece.now);
    }

pub returns-in_err-after : goal.returns-in_err-after
returns-in_err-after g c =
    let S = g.S.TokenSink in
    let r = err_from_is_err_and c.from_residual.result c.from_residual.ensures.1 in
    rw (r.1, r.2) (c.in_err-after.ensures.makes (place_of c.args.machine.now) (S.meaning c.args.sink.now) c.args.piece.now c.steps.invariant.holds)

pub returns-in-Stops : goal.returns-in-Stops
returns-in-Stops g c =
    let S = g.S.TokenSink in
    let made = c.in_ok-after.ensures.makes (place_of c.args.machine.now) (S.meaning c.args.sink.now) c.args.piece.now c.steps.invariant.holds in
    rw c.in-Stops.is at made

pub returns-in_err-stop : goal.returns-in_err-stop
returns-in_err-stop g c =
    let S = g.S.TokenSink in
    let r = err_from_is_err_and c.from_residual-in_err-stop.result c.from_residual-in_err-stop.ensures.1 in
    rw (r.1, r.2) (c.in_err-stop.ensures.handed (place_of c.args.machine.now) (place_of c.steps.machine) (S.meaning c.args.sink.now) c.args.piece.now c.steps.rest.now c.steps.invariant.holds)

pub returns-in-Some : goal.returns-in-Some
returns-in-Some g c =
    let S = g.S.TokenSink in
    let leads = c.in_ok-stop.ensures.handed (place_of c.args.machine.now) (place_of c.steps.machine) (S.meaning c.args.sink.now) c.args.piece.now c.steps.rest.now c.steps.invariant.holds in
    rw c.in-Some.is at leads

pub returns : goal.returns
returns g c =
    let S = g.S.TokenSink in
    let leads = c.in_ok-stop.ensures.handed (place_of c.args.machine.now) (place_of c.steps.machine) (S.meaning c.args.sink.now) c.args.piece.now c.steps.rest.now c.steps.invariant.holds in
    let read = rw c.in-None.is at leads in
    let none = nil_from_length c.steps.rest.now (eqb-true (length c.steps.rest.now) 0 (sym c.is_empty.ensures ∙ c.steps-test.false)) in
    subst (λ r. ReadsOn S.reply_to S.after S.is_foreign (place_of c.args.machine.now) (S.meaning c.args.sink.now) c.args.piece.now (place_of c.steps.machine) (S.meaning c.hand_on.new.sink) r) none read
