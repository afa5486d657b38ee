use Rattle.std.proofs.Common.{string_bytes, ap, ◌∙◌}
use Rattle.std.proofs.lemmas.Result.{err_from_is_err_and}
use Rattle.h5_tokenizer_states.specs.MachineText.{place_of}
use Rattle.h5_tokenizer_spec.specs.Spots.{position}
use Rattle.h5_standard_tokenizer.proofs.TakeLaws.{reconsumed_is_less_at, consumed_is_ascii, completed_is_ascii, wondered_is_ascii, front_is_ascii}
use Rattle.h5_standard_tokenizer.proofs.TellingLaws.{tells_consumed, tells_question, tells_reconsumed, turns_telling, fails_at_byte, fails_telling}
use Rattle.h5_standard_tokenizer.proofs.telling_steps.telling_byte_step.Goals as goal

pub behind_byte-requires-clause-ascii : goal.behind_byte-requires-clause-ascii
behind_byte-requires-clause-ascii g c =
    front_is_ascii c.args.b c.args.rest.now c.requires.front
    (consumed_is_ascii c.args.machine.now c.take.new.self c.args.b (string_bytes c.args.emitted.now.text) (string_bytes c.take.new.out) c.requires.narrow (rw c.in-Consumed.is at c.in_ok-take.ensures))

pub behind_byte-requires-in-Emitted-clause-ascii : goal.behind_byte-requires-in-Emitted-clause-ascii
behind_byte-requires-in-Emitted-clause-ascii g c =
    front_is_ascii c.args.b c.args.rest.now c.requires.front
    (completed_is_ascii c.args.machine.now c.take.new.self c.args.b (string_bytes c.args.emitted.now.text) (string_bytes c.take.new.out) c.in-Emitted.construct c.in-Emitted.line c.requires.narrow (rw c.in-Emitted.is at c.in_ok-take.ensures))

pub behind_byte-requires-in-Asks-clause-ascii : goal.behind_byte-requires-in-Asks-clause-ascii
behind_byte-requires-in-Asks-clause-ascii g c =
    front_is_ascii c.args.b c.args.rest.now c.requires.front
    (wondered_is_ascii c.args.machine.now c.take.new.self c.args.b (string_bytes c.args.emitted.now.text) (string_bytes c.take.new.out) c.requires.narrow (rw c.in-Asks.is at c.in_ok-take.ensures))

pub returns-in_err-take-clause-makes : goal.returns-in_err-take-clause-makes
returns-in_err-take-clause-makes g c = λ start first h.
    let S = g.S.TokenSink in
    let r = err_from_is_err_and c.from_residual.result c.from_residual.ensures.1 in
    rw (r.1, r.2) (fails_at_byte S.reply_to S.after S.is_foreign g.E.ErrorSink.Told start first c.args.rest.now c.requires.front c.requires.kept h)

pub returns-in-Reconsumed-clause-less : goal.returns-in-Reconsumed-clause-less
returns-in-Reconsumed-clause-less g c =
    reconsumed_is_less_at c.args.machine.now c.take.new.self c.args.b (string_bytes c.args.emitted.now.text) (string_bytes c.take.new.out) c.args.rest.now c.requires.front (rw c.in-Reconsumed.is at c.in_ok-take.ensures)

pub returns-in-Reconsumed-clause-makes : goal.returns-in-Reconsumed-clause-makes
returns-in-Reconsumed-clause-makes g c = λ start first h.
    let S = g.S.TokenSink in
    tells_reconsumed S.reply_to S.after S.is_foreign g.E.ErrorSink.Told start first c.args.machine.now c.take.new.self c.args.b (string_bytes c.args.emitted.now.text) (string_bytes c.take.new.out) c.args.rest.now c.args.emitted.now.line
    c.args.spot.now c.meet.new.self (S.meaning c.args.sink.now) c.args.errors.now c.requires.front c.meet.ensures (rw c.in-Reconsumed.is at c.in_ok-take.ensures) h

pub returns-in-Consumed-clause-makes : goal.returns-in-Consumed-clause-makes
returns-in-Consumed-clause-makes g c = λ start first h.
    let S = g.S.TokenSink in
    tells_consumed S.reply_to S.after S.is_foreign g.E.ErrorSink.Told start first c.args.machine.now c.take.new.self c.args.b (string_bytes c.args.emitted.now.text) (string_bytes c.take.new.out) c.args.rest.now c.behind_byte.result.now c.args.emitted.now.line
    c.args.spot.now c.pass.new.self (S.meaning c.args.sink.now) c.args.errors.now c.requires.front c.behind_byte.ensures c.pass.ensures c.requires.kept (rw c.in-Consumed.is at c.in_ok-take.ensures) h

pub returns-in_err-stopped-in-Emitted-clause-makes : goal.returns-in_err-stopped-in-Emitted-clause-makes
returns-in_err-stopped-in-Emitted-clause-makes g c = λ start first h.
    let S = g.S.TokenSink in
    let r = err_from_is_err_and c.from_residual-in_err-stopped-in-Emitted.result c.from_residual-in_err-stopped-in-Emitted.ensures.1 in
    rw (r.1, r.2)
    (fails_telling S.reply_to S.after S.is_foreign g.E.ErrorSink.Told start first S.node c.args.machine.now c.take.new.self c.args.b c.in-Emitted.line (string_bytes c.args.emitted.now.text) (string_bytes c.take.new.out) c.args.rest.now c.args.emitted.now.line
    c.args.spot.now c.pass-in-Emitted.new.self (S.meaning c.args.sink.now) (S.meaning c.hand_on.new.sink) (place_of c.hand_on.new.machine) c.args.errors.now c.in-Emitted.construct c.in_err-stopped-in-Emitted.field-0.0
    c.requires.front c.pass-in-Emitted.ensures (rw c.in-Emitted.is at c.in_ok-take.ensures) c.requires.quiet h c.in_err-stopped-in-Emitted.ensures)

pub returns-in_ok-stopped-in-Emitted-clause-makes : goal.returns-in_ok-stopped-in-Emitted-clause-makes
returns-in_ok-stopped-in-Emitted-clause-makes g c = λ start first h.
    let S = g.S.TokenSink in
    rw c.progress_of.ensures
    (turns_telling S.reply_to S.after S.is_foreign g.E.ErrorSink.Told start first S.node c.args.machine.now c.take.new.self c.args.b c.in-Emitted.line c.began-emitted.result (string_bytes c.args.emitted.now.text) (string_bytes c.take.new.out) c.args.rest.now c.args.emitted.now.line
    c.args.spot.now c.pass-in-Emitted.new.self (S.meaning c.args.sink.now) (S.meaning c.hand_on.new.sink) (place_of c.hand_on.new.machine) c.args.errors.now c.in-Emitted.construct c.in_ok-stopped-in-Emitted.stopped c.behind_byte-in-Emitted.result
    c.requires.front c.behind_byte-in-Emitted.ensures c.pass-in-Emitted.ensures c.began-emitted.ensures (rw c.in-Emitted.is at c.in_ok-take.ensures) c.requires.quiet h c.in_ok-stopped-in-Emitted.ensures)

pub returns-in-Asks-clause-makes : goal.returns-in-Asks-clause-makes
returns-in-Asks-clause-makes g c = λ start first h.
    let S = g.S.TokenSink in
    tells_question S.reply_to S.after S.is_foreign g.E.ErrorSink.Told start first c.args.machine.now c.take.new.self c.args.b (string_bytes c.args.emitted.now.text) (string_bytes c.take.new.out) c.args.rest.now c.behind_byte-in-Asks.result.now c.args.emitted.now.line c.began-emitted-in-Asks.result
    c.args.spot.now c.pass-in-Asks.new.self (S.meaning c.args.sink.now) (place_of c.ask_node.new.machine) c.args.errors.now c.ask_node.new.errors c.position-at.result
    c.requires.front c.behind_byte-in-Asks.ensures c.pass-in-Asks.ensures (c.position-at.ensures ∙ ap (λ line. position line c.args.spot.now) c.line.ensures) c.began-emitted-in-Asks.ensures (rw c.in-Asks.is at c.in_ok-take.ensures) c.requires.quiet c.ask_node.ensures.place c.ask_node.ensures.tells h
