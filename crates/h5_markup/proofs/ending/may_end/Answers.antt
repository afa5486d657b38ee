use Rattle.std.proofs.Common.{rules}
use Rattle.h5_markup.proofs.ending.may_end.Goals as goal

pub returns-in-AttributeValueDoubleQuoted : goal.returns-in-AttributeValueDoubleQuoted
returns-in-AttributeValueDoubleQuoted c = search rules
