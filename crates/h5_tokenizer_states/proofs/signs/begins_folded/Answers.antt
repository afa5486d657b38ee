use Rattle.h5_tokenizer_states.proofs.FoldLaws.{folded_front, folded_longer}
use Rattle.h5_tokenizer_states.proofs.signs.begins_folded.Goals as goal

pub returns-then-word-bytes : goal.returns-then-word-bytes
returns-then-word-bytes c = folded_longer _ _ _ c.as_bytes-bytes.ensures.value c.if-word-bytes.true

pub returns : goal.returns
returns c = folded_front _ _ _ _ c.as_bytes-bytes.ensures.value c.if-word-bytes.false c.eq_ignore_ascii_case.ensures.test
