use Rattle.std.proofs.Common.{rules}
use Rattle.h5_serialize.proofs.tags.prefix_of.Goals as goal

pub returns-in-text-3 : goal.returns-in-text-3
returns-in-text-3 c = search rules
