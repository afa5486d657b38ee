use Rattle.h5_tokenizer_states.proofs.FoldLaws.{folded_all}
use Rattle.h5_tokenizer_states.proofs.signs.is_folded.Goals as goal

pub returns : goal.returns
returns c = folded_all _ _ _ _ c.as_bytes.ensures.value c.eq_ignore_ascii_case.ensures.test
