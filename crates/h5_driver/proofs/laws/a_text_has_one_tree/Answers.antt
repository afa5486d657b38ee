use Rattle.h5_driver.proofs.OneTree.{one_tree}
use Rattle.h5_driver.proofs.laws.a_text_has_one_tree.Goals as goal

pub returns : goal.returns
returns g c = one_tree g.R.Sink.TreeSink.choices
