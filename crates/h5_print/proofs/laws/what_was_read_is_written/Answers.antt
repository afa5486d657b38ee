use Rattle.h5_print.proofs.EscapeLaws.{escape-unescape}
use Rattle.h5_print.proofs.laws.what_was_read_is_written.Goals as goal

pub returns : goal.returns
returns c = escape-unescape
