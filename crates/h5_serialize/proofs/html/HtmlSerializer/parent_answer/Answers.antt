use Rattle.std.proofs.Common.{rules}
use Rattle.h5_serialize.proofs.html.HtmlSerializer.parent_answer.Goals as goal

pub returns-then-not-self : goal.returns-then-not-self
returns-then-not-self g c = search rules

pub returns : goal.returns
returns g c = search rules
