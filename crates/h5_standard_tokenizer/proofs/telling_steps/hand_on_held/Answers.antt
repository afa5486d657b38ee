use Rattle.std.proofs.Common.{string_bytes, length, ap, sym, ◌∙◌}
use Rattle.std.proofs.lemmas.Bool.{eqb-true, eqb-false}
use Rattle.std.proofs.lemmas.List.{nil_from_length}
use Rattle.h5_standard_tokenizer.proofs.TellingLaws.{none_leads_telling, text_leads_telling}
use Rattle.h5_standard_tokenizer.proofs.telling_steps.hand_on_held.Goals as goal

pub returns-then-is_empty-clause-handed : goal.returns-then-is_empty-clause-handed
returns-then-is_empty-clause-handed g c = λ start first p s xs h.
    let S = g.S.TokenSink in
    let none = eqb-true (length c.as_str.result.now) 0 (sym c.is_empty.ensures ∙ c.if-is_empty.true) in
    none_leads_telling S.reply_to S.after S.is_foreign g.E.ErrorSink.Told start first (string_bytes c.args.emitted.now.text)
    (nil_from_length (string_bytes c.args.emitted.now.text) (sym (ap length c.as_str.ensures.value) ∙ none)) h

pub returns-clause-handed : goal.returns-clause-handed
returns-clause-handed g c = λ start first p s xs h.
    let S = g.S.TokenSink in
    let some = eqb-false (length c.as_str.result.now) 0 (sym c.is_empty.ensures ∙ c.if-is_empty.false) in
    text_leads_telling S.reply_to S.after S.is_foreign g.E.ErrorSink.Told start first S.node (string_bytes c.args.emitted.now.text) (S.meaning c.hand_on_text.new.sink) c.hand_on_text.result
    (λ e. some (ap length (c.as_str.ensures.value ∙ e))) h
    (rw (← c.replace-text.ensures.value, ← c.replace-began.ensures.value) (c.hand_on_text.ensures p))
