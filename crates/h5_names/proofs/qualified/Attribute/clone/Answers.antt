use Rattle.std.proofs.Common.{rules}
use Rattle.h5_names.proofs.qualified.Attribute.clone.Goals as goal

pub returns : goal.returns
returns c = search rules
