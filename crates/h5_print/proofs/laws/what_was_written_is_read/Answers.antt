use Rattle.h5_print.proofs.EscapeLaws.{unescape-escape}
use Rattle.h5_print.proofs.laws.what_was_written_is_read.Goals as goal

pub returns : goal.returns
returns c = unescape-escape
