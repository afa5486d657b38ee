use Rattle.std.proofs.Common.{rules}
use Rattle.h5_names.proofs.known_cases.in_lower_case.Goals as goal

pub returns-in-FeBlend : goal.returns-in-FeBlend
returns-in-FeBlend c = search rules
