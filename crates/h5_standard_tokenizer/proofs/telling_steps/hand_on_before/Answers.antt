use Rattle.std.proofs.Common.{string_bytes, ◌∙◌}
use Rattle.h5_tokenizer_states.specs.MachineText.{place_of}
use Rattle.h5_standard_tokenizer.proofs.TellingLaws.{in_other_words}
use Rattle.h5_standard_tokenizer.proofs.telling_steps.hand_on_before.Goals as goal

pub returns-clause-handed : goal.returns-clause-handed
returns-clause-handed g c = λ start first s xs h.
    let S = g.S.TokenSink in
    in_other_words S.reply_to S.after S.is_foreign g.E.ErrorSink.Told start first S.node (place_of c.args.machine.now) s (S.meaning c.hand_on_held.new.sink) xs c.args.errors.now (string_bytes c.hand_on_held.new.emitted.text) c.hand_on_held.new.emitted.line c.hand_on_held.result
    c.hand_on_held.ensures.text (c.hand_on_held.ensures.line ∙ c.began.ensures)
    (c.hand_on_held.ensures.handed start first (place_of c.args.machine.now) s xs h)
