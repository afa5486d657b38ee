use Rattle.h5_clean.proofs.CleanedLaws.{nothing_taken}
use Rattle.h5_clean.proofs.laws.a_clean_text_stays.Goals as goal

pub returns : goal.returns
returns c = nothing_taken c.calls_stand_around_those_of_children.ensures
