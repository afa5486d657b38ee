use Rattle.std.proofs.Common.{◌∙◌, [], length, string_bytes, subst, sym}
use Rattle.std.proofs.lemmas.Bool.{eqb-true}
use Rattle.std.proofs.lemmas.List.{nil_from_length}
use Rattle.std.proofs.lemmas.Result.{err_from_is_err_and}
use Rattle.h5_tokenizer_spec.specs.Telling.{at_first}
use Rattle.h5_tokenizer_states.specs.MachineText.{place_of}
use Rattle.h5_standard_tokenizer.specs.Telling.{CameOn}
use Rattle.h5_standard_tokenizer.proofs.TellingLaws.{begins_here}
use Rattle.h5_standard_tokenizer.proofs.telling_steps.read_bytes.Goals as goal

pub steps-init : goal.steps-init
steps-init g c =
    let S = g.S.TokenSink in
    record {
      utf8 = c.utf8.piece;
      came = begins_here S.reply_to S.after S.is_foreign g.E.ErrorSink.Told (place_of c.args.machine.now) c.args.spot.now (S.meaning c.args.sink.now) c.args.piece.now c.args.errors.now (string_bytes c.new-emitted.result.text) c.new-emitted.result.line c.new-emitted.ensures.text (c.new-emitted.ensures.line ∙ c.began.ensures);
    }

pub returns-in_err-after : goal.returns-in_err-after
returns-in_err-after g c =
    let S = g.S.TokenSink in
    let start = at_first (place_of c.args.machine.now) c.args.spot.now (S.meaning c.args.sink.now) c.args.piece.now in
    let r = err_from_is_err_and c.from_residual.result c.from_residual.ensures.1 in
    rw (r.1, r.2) (c.in_err-after.ensures.makes start c.args.errors.now c.steps.invariant.came)

pub returns-in-Stops : goal.returns-in-Stops
returns-in-Stops g c =
    let S = g.S.TokenSink in
    let start = at_first (place_of c.args.machine.now) c.args.spot.now (S.meaning c.args.sink.now) c.args.piece.now in
    let made = c.in_ok-after.ensures.makes start c.args.errors.now c.steps.invariant.came in
    rw c.in-Stops.is at made

pub returns-in_err-stop : goal.returns-in_err-stop
returns-in_err-stop g c =
    let S = g.S.TokenSink in
    let start = at_first (place_of c.args.machine.now) c.args.spot.now (S.meaning c.args.sink.now) c.args.piece.now in
    let r = err_from_is_err_and c.from_residual-in_err-stop.result c.from_residual-in_err-stop.ensures.1 in
    rw (r.1, r.2) (c.in_err-stop.ensures.handed start c.args.errors.now (place_of c.steps.machine) c.steps.spot c.steps.rest.now c.steps.invariant.came)

pub returns-in-Some : goal.returns-in-Some
returns-in-Some g c =
    let S = g.S.TokenSink in
    let start = at_first (place_of c.args.machine.now) c.args.spot.now (S.meaning c.args.sink.now) c.args.piece.now in
    let leads = c.in_ok-stop.ensures.handed start c.args.errors.now (place_of c.steps.machine) c.steps.spot c.steps.rest.now c.steps.invariant.came in
    rw c.in-Some.is at leads

pub returns : goal.returns
returns g c =
    let S = g.S.TokenSink in
    let start = at_first (place_of c.args.machine.now) c.args.spot.now (S.meaning c.args.sink.now) c.args.piece.now in
    let leads = c.in_ok-stop.ensures.handed start c.args.errors.now (place_of c.steps.machine) c.steps.spot c.steps.rest.now c.steps.invariant.came in
    let came = rw c.in-None.is at leads in
    let none = nil_from_length c.steps.rest.now (eqb-true (length c.steps.rest.now) 0 (sym c.is_empty.ensures ∙ c.steps-test.false)) in
    subst (λ r. CameOn S.reply_to S.after S.is_foreign g.E.ErrorSink.Told start c.args.errors.now [] (place_of c.steps.machine).began (place_of c.steps.machine) c.steps.spot (S.meaning c.hand_on_held.new.sink) r c.steps.errors) none came
