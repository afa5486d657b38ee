use Rattle.std.proofs.Common.{rules}
use Rattle.h5_serialize.proofs.html.HtmlSerializerSerializer.write_comment.Goals as goal

pub returns-in_err-write_between : goal.returns-in_err-write_between
returns-in_err-write_between g c = search rules

pub returns : goal.returns
returns g c = search rules
