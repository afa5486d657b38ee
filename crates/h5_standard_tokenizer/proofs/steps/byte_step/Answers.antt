use Rattle.std.proofs.Common.{true, false, string_bytes, ap, ◌∙◌}
use Rattle.std.proofs.lemmas.Result.{err_from_is_err_and}
use Rattle.h5_tokenizer_states.specs.MachineText.{place_of}
use Rattle.h5_standard_tokenizer.proofs.TakeLaws.{goes_reconsumed, goes_consumed, token_fails, token_turns, question_turns, reconsumed_is_less_at, consumed_is_ascii, completed_is_ascii, wondered_is_ascii, front_is_ascii}
use Rattle.h5_standard_tokenizer.proofs.steps.byte_step.Goals as goal
use Rattle.h5_standard_tokenizer.proofs.steps.byte_step.Goals.{then-adjusted_current_node_present_but_not_in_html_namespace, else-adjusted_current_node_present_but_not_in_html_namespace}

pub behind_byte-requires-clause-ascii : goal.behind_byte-requires-clause-ascii
behind_byte-requires-clause-ascii g c =
    front_is_ascii c.args.b c.args.rest.now c.requires.front
    (consumed_is_ascii c.args.machine.now c.take.new.self c.args.b (string_bytes c.args.emitted.now.text) (string_bytes c.take.new.out) c.requires.narrow (rw c.in-Consumed.is at c.in_ok-take.ensures))

pub behind_byte-requires-in-Emitted-clause-ascii : goal.behind_byte-requires-in-Emitted-clause-ascii
behind_byte-requires-in-Emitted-clause-ascii g c =
    front_is_ascii c.args.b c.args.rest.now c.requires.front
    (completed_is_ascii c.args.machine.now c.take.new.self c.args.b (string_bytes c.args.emitted.now.text) (string_bytes c.take.new.out) c.in-Emitted.construct c.in-Emitted.line c.requires.narrow (rw c.in-Emitted.is at c.in_ok-take.ensures))

pub behind_byte-requires-in-Asks-clause-ascii : goal.behind_byte-requires-in-Asks-clause-ascii
behind_byte-requires-in-Asks-clause-ascii g c =
    front_is_ascii c.args.b c.args.rest.now c.requires.front
    (wondered_is_ascii c.args.machine.now c.take.new.self c.args.b (string_bytes c.args.emitted.now.text) (string_bytes c.take.new.out) c.requires.narrow (rw c.in-Asks.is at c.in_ok-take.ensures))

pub returns-in-Reconsumed-clause-less : goal.returns-in-Reconsumed-clause-less
returns-in-Reconsumed-clause-less g c =
    reconsumed_is_less_at c.args.machine.now c.take.new.self c.args.b (string_bytes c.args.emitted.now.text) (string_bytes c.take.new.out) c.args.rest.now c.requires.front (rw c.in-Reconsumed.is at c.in_ok-take.ensures)

pub returns-in-Reconsumed-clause-makes : goal.returns-in-Reconsumed-clause-makes
returns-in-Reconsumed-clause-makes g c = λ p m xs h.
    let S = g.S.TokenSink in
    goes_reconsumed S.reply_to S.after S.is_foreign p m xs (string_bytes c.args.emitted.now.text) (string_bytes c.take.new.out) c.args.emitted.now.line c.args.machine.now c.take.new.self (S.meaning c.args.sink.now) c.args.b c.args.rest.now
    c.requires.front (rw c.in-Reconsumed.is at c.in_ok-take.ensures) h

pub returns-in-Consumed-clause-makes : goal.returns-in-Consumed-clause-makes
returns-in-Consumed-clause-makes g c = λ p m xs h.
    let S = g.S.TokenSink in
    goes_consumed S.reply_to S.after S.is_foreign p m xs (string_bytes c.args.emitted.now.text) (string_bytes c.take.new.out) c.args.emitted.now.line c.args.machine.now c.take.new.self (S.meaning c.args.sink.now) c.args.b c.args.rest.now c.behind_byte.result.now
    c.requires.front c.behind_byte.ensures (rw c.in-Consumed.is at c.in_ok-take.ensures) h

pub returns-in_err-stopped-in-Emitted-clause-makes : goal.returns-in_err-stopped-in-Emitted-clause-makes
returns-in_err-stopped-in-Emitted-clause-makes g c = λ p m xs h.
    let S = g.S.TokenSink in
    let r = err_from_is_err_and c.from_residual-in_err-stopped-in-Emitted.result c.from_residual-in_err-stopped-in-Emitted.ensures.1 in
    rw (r.1, r.2)
    (token_fails S.reply_to S.after S.is_foreign S.node p m xs (string_bytes c.args.emitted.now.text) (string_bytes c.take.new.out) c.args.emitted.now.line c.args.machine.now c.take.new.self (S.meaning c.args.sink.now) (S.meaning c.hand_on.new.sink) (place_of c.hand_on.new.machine) c.args.b c.in-Emitted.line c.args.rest.now c.in-Emitted.construct c.in_err-stopped-in-Emitted.field-0.0
    c.requires.front (rw c.in-Emitted.is at c.in_ok-take.ensures) c.requires.quiet h c.in_err-stopped-in-Emitted.ensures)

pub returns-in_ok-stopped-in-Emitted-clause-makes : goal.returns-in_ok-stopped-in-Emitted-clause-makes
returns-in_ok-stopped-in-Emitted-clause-makes g c = λ p m xs h.
    let S = g.S.TokenSink in
    rw c.progress_of.ensures
    (token_turns S.reply_to S.after S.is_foreign S.node p m xs (string_bytes c.args.emitted.now.text) (string_bytes c.take.new.out) c.args.emitted.now.line c.args.machine.now c.take.new.self (S.meaning c.args.sink.now) (S.meaning c.hand_on.new.sink) (place_of c.hand_on.new.machine) c.args.b c.in-Emitted.line c.began-emitted.result c.args.rest.now c.behind_byte-in-Emitted.result c.in-Emitted.construct c.in_ok-stopped-in-Emitted.stopped
    c.requires.front c.behind_byte-in-Emitted.ensures (rw c.in-Emitted.is at c.in_ok-take.ensures) c.requires.quiet c.began-emitted.ensures h c.in_ok-stopped-in-Emitted.ensures)

pub returns-after-adjusted_current_node_present_but_not_in_html_namespace-clause-makes :
    goal.returns-after-adjusted_current_node_present_but_not_in_html_namespace-clause-makes
returns-after-adjusted_current_node_present_but_not_in_html_namespace-clause-makes g c = λ p m xs h.
    let S = g.S.TokenSink in
    let b = c.if-adjusted_current_node_present_but_not_in_html_namespace in
    let asked = rw c.in-Asks.is at c.in_ok-take.ensures in
    elim b.branch [
      | then-adjusted_current_node_present_but_not_in_html_namespace w ↦
          question_turns S.reply_to S.after S.is_foreign p m xs (string_bytes c.args.emitted.now.text) (string_bytes c.take.new.out) c.args.emitted.now.line c.args.machine.now c.take.new.self (S.meaning c.args.sink.now) (place_of b.machine) c.args.b c.began-emitted-in-Asks.result c.args.rest.now c.behind_byte-in-Asks.result.now true
          c.requires.front c.behind_byte-in-Asks.ensures asked c.requires.quiet w.if-adjusted_current_node_present_but_not_in_html_namespace.ensures (ap place_of w.machine-is ∙ w.begin_cdata_section.ensures) c.began-emitted-in-Asks.ensures h
      | else-adjusted_current_node_present_but_not_in_html_namespace w ↦
          question_turns S.reply_to S.after S.is_foreign p m xs (string_bytes c.args.emitted.now.text) (string_bytes c.take.new.out) c.args.emitted.now.line c.args.machine.now c.take.new.self (S.meaning c.args.sink.now) (place_of b.machine) c.args.b c.began-emitted-in-Asks.result c.args.rest.now c.behind_byte-in-Asks.result.now false
          c.requires.front c.behind_byte-in-Asks.ensures asked c.requires.quiet w.if-adjusted_current_node_present_but_not_in_html_namespace.ensures (ap place_of w.machine-is) c.began-emitted-in-Asks.ensures h
    ]
