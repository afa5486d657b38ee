use Rattle.std.proofs.Common.{string_bytes, drop, ap, sym, ◌∙◌, ◌++◌, encode_utf8}
use Rattle.std.proofs.lemmas.Result.{err_from_is_err_and}
use Rattle.h5_tokenizer_states.specs.MachineText.{place_of}
use Rattle.h5_standard_tokenizer.proofs.EncodingLaws.{behind_is_shorter, encoded_wide}
use Rattle.h5_standard_tokenizer.proofs.TellingLaws.{fails_at_byte, wide_tells}
use Rattle.h5_standard_tokenizer.proofs.WeightLaws.{shorter_is_less}
use Rattle.h5_standard_tokenizer.proofs.telling_steps.front_step.Goals as goal

pub wide_step-requires-clause-character : goal.wide_step-requires-clause-character
wide_step-requires-clause-character g c =
    let wide = c.is_taken_wide.ensures.wide c.if-is_taken_wide.true in
    let w = encoded_wide c.in-Some.c c.args.b c.in-Some.behind.now (drop 1 c.args.rest.now) (sym c.in-Some.ensures.rest ∙ c.requires.front) wide.0 in
    record { first = c.args.b; others = w.others; split = c.in-Some.ensures.front ∙ w.split; wide = wide.0; within = w.within }

pub returns-in_err-wide_step-clause-makes : goal.returns-in_err-wide_step-clause-makes
returns-in_err-wide_step-clause-makes g c = λ start first h.
    let S = g.S.TokenSink in
    let r = err_from_is_err_and c.from_residual.result c.from_residual.ensures.1 in
    rw (r.1, r.2)
    (fails_at_byte S.reply_to S.after S.is_foreign g.E.ErrorSink.Told start first c.args.rest.now c.requires.front c.requires.kept
    (record { old = c.args.errors.now; on = h; row = c.tell_front.ensures c.args.rest.now c.in-Some.behind.now c.in-Some.ensures.rest }))

pub returns-then-is_taken_wide-clause-makes : goal.returns-then-is_taken_wide-clause-makes
returns-then-is_taken_wide-clause-makes g c = λ start first h.
    let S = g.S.TokenSink in
    let wide = c.is_taken_wide.ensures.wide c.if-is_taken_wide.true in
    let w = encoded_wide c.in-Some.c c.args.b c.in-Some.behind.now (drop 1 c.args.rest.now) (sym c.in-Some.ensures.rest ∙ c.requires.front) wide.0 in
    wide_tells S.reply_to S.after S.is_foreign g.E.ErrorSink.Told start first c.args.machine.now c.wide_step.new.machine c.args.b w.others c.in-Some.front.now c.args.rest.now c.in-Some.behind.now
    (string_bytes c.args.emitted.now.text) (string_bytes c.wide_step.new.out) c.args.emitted.now.line c.args.spot.now c.wide_step.new.spot (S.meaning c.args.sink.now) c.args.errors.now c.tell_front.new.errors
    (c.in-Some.ensures.rest ∙ ap (λ l. l ++ c.in-Some.behind.now) (sym c.in-Some.ensures.front)) (c.in-Some.ensures.front ∙ w.split) wide.0 w.within wide.1 c.in_ok-wide_step.ensures.run c.wide_step.ensures.spot
    h (c.tell_front.ensures c.args.rest.now c.in-Some.behind.now c.in-Some.ensures.rest)

pub returns-clause-makes : goal.returns-clause-makes
returns-clause-makes g c = λ start first h.
    c.telling_byte_step.ensures.makes start first
    (record { old = c.args.errors.now; on = h; row = c.tell_front.ensures c.args.rest.now c.in-Some.behind.now c.in-Some.ensures.rest })

pub returns-then-is_taken_wide-clause-less : goal.returns-then-is_taken_wide-clause-less
returns-then-is_taken_wide-clause-less g c =
    let wide = c.is_taken_wide.ensures.wide c.if-is_taken_wide.true in
    let w = encoded_wide c.in-Some.c c.args.b c.in-Some.behind.now (drop 1 c.args.rest.now) (sym c.in-Some.ensures.rest ∙ c.requires.front) wide.0 in
    shorter_is_less (place_of c.args.machine.now) (place_of c.wide_step.new.machine) c.args.rest.now c.in-Some.behind.now
    (behind_is_shorter c.args.rest.now (encode_utf8 c.in-Some.c) c.in-Some.behind.now w.others c.args.b c.in-Some.ensures.rest w.split)
