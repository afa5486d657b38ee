use Rattle.h5_driver.proofs.ErrorLaws.{builds_the_same}
use Rattle.h5_driver.proofs.laws.reporting_builds_the_same_tree.Goals as goal

pub returns : goal.returns
returns c = builds_the_same
