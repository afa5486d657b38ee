use Rattle.std.proofs.Common.{rules}
use Rattle.h5_token.proofs.fault.BuildFaultFromAllocFailed.from.Goals as goal

pub returns : goal.returns
returns g c = search rules
