use Rattle.h5_driver.specs.Parsing.{joined, text_of, view_of}
use Rattle.h5_driver.proofs.PlainLaws.{brings_back}
use Rattle.h5_driver.proofs.laws.documents_come_back.Goals as goal

pub returns : goal.returns
returns g c = λ pieces first last told processed parses.
    brings_back g.met.R.Reader.lawful (text_of g.R.Reader first) (view_of g.R.Reader first) first.waiting (joined pieces) told (c.pieces_then_finish.ensures pieces first last told processed parses)
