use Rattle.h5_clean.proofs.AttributeLaws.{left_may}
use Rattle.h5_clean.proofs.laws.what_is_left_of_attributes_may_stay.Goals as goal

pub returns : goal.returns
returns c = left_may
