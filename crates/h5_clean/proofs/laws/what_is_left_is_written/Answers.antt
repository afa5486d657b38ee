use Rattle.h5_clean.proofs.CallLaws.{tree_written}
use Rattle.h5_clean.proofs.laws.what_is_left_is_written.Goals as goal

pub returns : goal.returns
returns c = tree_written
