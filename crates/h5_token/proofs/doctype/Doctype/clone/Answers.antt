use Rattle.std.proofs.Common.{rules}
use Rattle.h5_token.proofs.doctype.Doctype.clone.Goals as goal

pub returns : goal.returns
returns c = search rules
