use Rattle.h5_clean.proofs.MarkLaws.{text_unmarked}
use Rattle.h5_clean.proofs.laws.texts_of_fragments_are_unmarked.Goals as goal

pub returns : goal.returns
returns c = text_unmarked
