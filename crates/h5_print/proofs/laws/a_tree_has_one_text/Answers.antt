use Rattle.h5_print.proofs.OneText.{one_tree_text}
use Rattle.h5_print.proofs.laws.a_tree_has_one_text.Goals as goal

pub returns : goal.returns
returns c = one_tree_text
