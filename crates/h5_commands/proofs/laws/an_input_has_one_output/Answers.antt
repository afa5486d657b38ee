use Rattle.h5_commands.proofs.OneOutput.{one_output}
use Rattle.h5_commands.proofs.laws.an_input_has_one_output.Goals as goal

pub returns : goal.returns
returns c = one_output
