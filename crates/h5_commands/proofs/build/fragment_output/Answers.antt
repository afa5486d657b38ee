use Rattle.std.proofs.Common.{rules}
use Rattle.h5_commands.proofs.build.fragment_output.Goals as goal

pub returns-clause-prints : goal.returns-clause-prints
returns-clause-prints c = search rules
