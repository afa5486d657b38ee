use Rattle.h5_driver.proofs.FragmentLaws.{fragments_stand}
use Rattle.h5_driver.proofs.laws.fragments_come_back_over.Goals as goal

pub returns : goal.returns
returns g c = fragments_stand g.met.R.Reader.lawful
