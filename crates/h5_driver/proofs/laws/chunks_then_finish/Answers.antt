use Rattle.h5_driver.proofs.ByteLaws.{chunks_streamed}
use Rattle.h5_driver.proofs.laws.chunks_then_finish.Goals as goal

pub returns : goal.returns
returns g c = chunks_streamed g.R.Reader g.met.R.Reader.lawful
