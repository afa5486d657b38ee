use Rattle.std.proofs.Common.{rules}
use Rattle.h5_names.proofs.local_name.LocalNameOrd.cmp.Goals as goal

pub returns : goal.returns
returns c = search rules
