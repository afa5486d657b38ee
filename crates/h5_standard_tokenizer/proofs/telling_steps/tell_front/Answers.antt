use Rattle.std.proofs.Common.{ap, sym, ◌∙◌}
use Rattle.h5_tokenizer_spec.specs.Spots.{position}
use Rattle.h5_tokenizer_states.specs.MachineText.{place_of}
use Rattle.h5_standard_tokenizer.proofs.TellingLaws.{tells_again, tells_ahead, tells_new}
use Rattle.h5_standard_tokenizer.proofs.telling_steps.tell_front.Goals as goal

pub returns-then-not-spot : goal.returns-then-not-spot
returns-then-not-spot g c = λ xs behind_it e.
    tells_again g.E.ErrorSink.Told c.args.errors.now c.tell_errors.new.errors (place_of c.args.machine.now) c.args.spot c.args.b c.position-at.result xs
    (c.position-at.ensures ∙ ap (λ line. position line c.args.spot) c.line.ensures) c.if-not-spot.true c.tell_errors.ensures

pub returns-then-seen_ahead-eq0 : goal.returns-then-seen_ahead-eq0
returns-then-seen_ahead-eq0 g c = λ xs behind_it e.
    tells_new g.E.ErrorSink.Told c.args.errors.now c.tell_input_error.new.errors c.tell_errors-then-seen_ahead-eq0.new.errors (place_of c.args.machine.now) c.args.spot c.args.b c.args.c c.position-at.result xs behind_it
    (c.position-at.ensures ∙ ap (λ line. position line c.args.spot) c.line.ensures) c.if-not-spot.false c.ranges.c.0 e (sym c.seen_ahead.ensures ∙ c.if-seen_ahead-eq0.true)
    c.tell_input_error.ensures c.tell_errors-then-seen_ahead-eq0.ensures

pub returns-else-seen_ahead-eq0 : goal.returns-else-seen_ahead-eq0
returns-else-seen_ahead-eq0 g c = λ xs behind_it e.
    tells_ahead g.E.ErrorSink.Told c.args.errors.now c.tell_errors-else-seen_ahead-eq0.new.errors c.tell_input_error-else-seen_ahead-eq0.new.errors (place_of c.args.machine.now) c.args.spot c.args.b c.args.c c.position-at.result xs behind_it
    (c.position-at.ensures ∙ ap (λ line. position line c.args.spot) c.line.ensures) c.if-not-spot.false c.ranges.c.0 e (λ none. c.if-seen_ahead-eq0.false (c.seen_ahead.ensures ∙ none))
    c.tell_errors-else-seen_ahead-eq0.ensures c.tell_input_error-else-seen_ahead-eq0.ensures
