use Rattle.std.proofs.Common.{sym}
use Rattle.h5_tokenizer_states.proofs.AheadLaws.{opens_nothing}
use Rattle.h5_tokenizer_states.proofs.comments.markup_declaration_open.Goals as goal

pub returns-then-b-ge128 : goal.returns-then-b-ge128
returns-then-b-ge128 c = λ parts. rw c.not_opened.ensures (sym (opens_nothing _ _ c.if-b-ge128.true))
