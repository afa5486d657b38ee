use Rattle.h5_serialize.proofs.EscapeLaws.{no_less_than, no_greater_than, no_quote}
use Rattle.h5_serialize.proofs.laws.escaped_text_holds_no_mark.Goals as goal

pub returns-clause-less_than : goal.returns-clause-less_than
returns-clause-less_than c = no_less_than

pub returns-clause-greater_than : goal.returns-clause-greater_than
returns-clause-greater_than c = no_greater_than

pub returns-clause-quote : goal.returns-clause-quote
returns-clause-quote c = no_quote
