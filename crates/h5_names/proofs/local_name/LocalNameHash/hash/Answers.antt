use Rattle.std.proofs.Common.{rules}
use Rattle.h5_names.proofs.local_name.LocalNameHash.hash.Goals as goal

pub returns : goal.returns
returns g c = search rules
