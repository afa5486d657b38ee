use Rattle.h5_clean.proofs.SourceLaws.{one_tree}
use Rattle.h5_clean.proofs.laws.calls_tell_of_one_tree.Goals as goal

pub returns : goal.returns
returns c = one_tree
