use Rattle.h5_bytes.proofs.PageLaws.{chunks_parsed}
use Rattle.h5_bytes.proofs.laws.chunks_then_finish.Goals as goal

pub returns : goal.returns
returns g c = chunks_parsed g.R.Reader g.met.R.Reader.lawful
