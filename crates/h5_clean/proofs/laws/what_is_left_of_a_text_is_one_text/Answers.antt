use Rattle.h5_clean.proofs.CleanedLaws.{one_text}
use Rattle.h5_clean.proofs.laws.what_is_left_of_a_text_is_one_text.Goals as goal

pub returns : goal.returns
returns c = one_text
