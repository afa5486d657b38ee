use Rattle.std.proofs.Common.{rules}
use Rattle.h5_driver.proofs.options.ParseOptsDefault.default.Goals as goal

pub returns : goal.returns
returns c = search rules
