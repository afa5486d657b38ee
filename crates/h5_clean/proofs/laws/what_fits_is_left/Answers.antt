use Rattle.h5_clean.proofs.PassLaws.{cleaned_same}
use Rattle.h5_clean.proofs.laws.what_fits_is_left.Goals as goal

pub returns : goal.returns
returns c = cleaned_same
