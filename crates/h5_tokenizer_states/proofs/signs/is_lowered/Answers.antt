use Rattle.std.proofs.Common.{sym, ◌∙◌, arith}
use Rattle.h5_tokenizer_states.proofs.TextLaws.{differs_at, differs_nowhere}
use Rattle.h5_tokenizer_states.proofs.signs.is_lowered.Goals as goal

pub returns-then-text-i : goal.returns-then-text-i
returns-then-text-i c =
    differs_at c.args.text.now c.args.written.now c.loop-i.i (omega arith) (λ e. c.if-text-i.true (e ∙ sym c.to_ascii_lowercase.ensures.value))

pub returns : goal.returns
returns c = differs_nowhere c.args.text.now c.args.written.now c.loop-i.invariant.0 (λ k h. c.loop-i.invariant.1 k (omega arith))
