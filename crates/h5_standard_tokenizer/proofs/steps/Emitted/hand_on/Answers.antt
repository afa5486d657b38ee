use Rattle.std.proofs.Common.{string_bytes, length, ap, sym, ◌∙◌}
use Rattle.std.proofs.lemmas.Bool.{eqb-true, eqb-false}
use Rattle.std.proofs.lemmas.List.{nil_from_length}
use Rattle.h5_standard_tokenizer.proofs.HoldLaws.{empty_is_handed_on, text_leads}
use Rattle.h5_standard_tokenizer.proofs.steps.Emitted.hand_on.Goals as goal

pub returns-then-is_empty-clause-handed : goal.returns-then-is_empty-clause-handed
returns-then-is_empty-clause-handed g c = λ p q m xs ys h.
    let S = g.S.TokenSink in
    let none = eqb-true (length c.as_str.result.now) 0 (sym c.is_empty.ensures ∙ c.if-is_empty.true) in
    empty_is_handed_on S.reply_to S.after S.is_foreign
    (nil_from_length (string_bytes c.args.self.now.text) (sym (ap length c.as_str.ensures.value) ∙ none)) h

pub returns-clause-handed : goal.returns-clause-handed
returns-clause-handed g c = λ p q m xs ys h.
    let S = g.S.TokenSink in
    let some = eqb-false (length c.as_str.result.now) 0 (sym c.is_empty.ensures ∙ c.if-is_empty.false) in
    text_leads S.reply_to S.after S.is_foreign S.node (string_bytes c.args.self.now.text) (S.meaning c.hand_on_text.new.sink) c.hand_on_text.result
    (λ e. some (ap length (c.as_str.ensures.value ∙ e))) h
    (rw (← c.replace-text.ensures.value, ← c.replace-began.ensures.value) (c.hand_on_text.ensures q))
