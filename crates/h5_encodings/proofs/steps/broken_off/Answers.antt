use Rattle.std.proofs.Common.{sym, ap}
use Rattle.std.specs.Char.{encode_utf8}
use Rattle.h5_encodings.specs.Steps.{broken_off, text_shown}
use Rattle.h5_encodings.proofs.steps.broken_off.Goals as goal

pub returns-then-is_broken_off : goal.returns-then-is_broken_off
unfolding encode_utf8
returns-then-is_broken_off c = sym (ap (λ b. text_shown (broken_off b)) c.if-is_broken_off.true)
