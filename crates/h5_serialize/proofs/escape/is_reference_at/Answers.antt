use Rattle.std.proofs.Common.{rules}
use Rattle.h5_serialize.proofs.escape.is_reference_at.Goals as goal

pub returns-then-i-bytes : goal.returns-then-i-bytes
returns-then-i-bytes c = search rules
