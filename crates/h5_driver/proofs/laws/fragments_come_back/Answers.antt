use Rattle.h5_driver.specs.StandardReaderLaws.{are_readings}
use Rattle.h5_driver.proofs.FragmentLaws.{fragments_stand}
use Rattle.h5_driver.proofs.laws.fragments_come_back.Goals as goal

pub returns : goal.returns
returns c choices = fragments_stand (are_readings choices)
