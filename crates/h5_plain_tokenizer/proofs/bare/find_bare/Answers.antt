use Rattle.std.proofs.lemmas.Option.{IfSome_then}
use Rattle.h5_plain_tokenizer.proofs.BareLaws.{begins_bare, bare_in_line}
use Rattle.h5_plain_tokenizer.proofs.bare.find_bare.Goals as goal

pub returns-in-Data-clause-begins : goal.returns-in-Data-clause-begins
returns-in-Data-clause-begins c = IfSome_then c.find_bare.result c.find_bare.ensures (λ tag h. rw c.in-Data.is (begins_bare c.args.text.now tag.0 tag.1.now tag.2.now h))

pub returns-in-Data-clause-line : goal.returns-in-Data-clause-line
returns-in-Data-clause-line c = IfSome_then c.find_bare.result c.find_bare.ensures (λ tag h. bare_in_line c.args.text.now tag.0 tag.1.now tag.2.now h)
