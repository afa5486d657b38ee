use Rattle.h5_driver.proofs.StreamLaws.{streamed}
use Rattle.h5_driver.proofs.laws.pieces_then_finish.Goals as goal

pub returns : goal.returns
returns g c = streamed g.R.Reader g.met.R.Reader.lawful
