use Rattle.std.proofs.Common.{subst, IsUtf8}
use Rattle.std.proofs.lemmas.Result.{err_from_is_err_and}
use Rattle.h5_tokenizer_input.specs.Stops.{stops_as}
use Rattle.h5_plain_tokenizer.specs.Steps.{further, place_of}
use Rattle.h5_plain_tokenizer.proofs.ReadLaws.{moves_started}
use Rattle.h5_plain_tokenizer.proofs.RunLaws.{went_none, went_more, halts_at, ran_into}
use Rattle.h5_plain_tokenizer.proofs.run.run.Goals as goal

pub steps-init : goal.steps-init
steps-init g c =
    let S = g.S.TokenSink in
    record { utf8 = c.utf8.text; started = c.requires.started; pending = c.requires.pending; went = went_none S.reply_to S.after S.is_foreign (place_of c.args.state.now) (S.meaning c.args.sink.now) c.args.text.now }

pub returns-in_err-search : goal.returns-in_err-search
returns-in_err-search g c =
    let S = g.S.TokenSink in
    let p = err_from_is_err_and c.from_residual.result c.from_residual.ensures.1 in
    rw (p.1, p.2)
    (ran_into S.reply_to S.after S.is_foreign S.node (place_of c.args.state.now) (S.meaning c.args.sink.now) c.args.text.now (place_of c.steps.state) (S.meaning c.steps.sink) c.steps.rest.now (place_of c.step.new.state) (S.meaning c.step.new.sink) c.in_err-search.field-0.0
    c.steps.invariant.went c.in_err-search.ensures)

pub returns-in-Stops : goal.returns-in-Stops
returns-in-Stops g c =
    let S = g.S.TokenSink in
    let moved = rw c.in-Stops.is at c.in_ok-search.ensures in
    rw c.saturating_add-state.ensures
    (halts_at S.reply_to S.after S.is_foreign (place_of c.args.state.now) (S.meaning c.args.sink.now) c.args.text.now (place_of c.steps.state) (S.meaning c.steps.sink) c.steps.rest.now (stops_as S.node c.in-Stops.stop) (further c.in-Stops.lines (place_of c.step.new.state)) (S.meaning c.step.new.sink) c.in-Stops.after.now
    c.steps.invariant.went moved)

pub steps-preserved : goal.steps-preserved
steps-preserved g c =
    let S = g.S.TokenSink in
    let moved = rw c.in-Goes.is at c.in_ok-search.ensures in
    record {
      utf8 = subst IsUtf8 c.as_bytes-bytes.ensures.value c.as_bytes-bytes.ensures.utf8;
      started = moves_started S.reply_to S.after S.is_foreign (place_of c.steps.state) (S.meaning c.steps.sink) c.steps.rest.now moved.reply (further c.in-Goes.lines (place_of c.step.new.state)) (S.meaning c.step.new.sink) c.in-Goes.after.now c.steps.invariant.started moved.moves;
      pending = tt;
      went = rw c.saturating_add-state-in-Goes.ensures
          (went_more S.reply_to S.after S.is_foreign (place_of c.args.state.now) (S.meaning c.args.sink.now) c.args.text.now (place_of c.steps.state) (S.meaning c.steps.sink) c.steps.rest.now (further c.in-Goes.lines (place_of c.step.new.state)) (S.meaning c.step.new.sink) c.in-Goes.after.now c.steps.invariant.went moved);
    }
