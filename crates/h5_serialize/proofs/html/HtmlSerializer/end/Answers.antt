use Rattle.std.proofs.Common.{rules}
use Rattle.h5_serialize.proofs.html.HtmlSerializer.end.Goals as goal

pub returns : goal.returns
returns g c = search rules
