use Rattle.h5_clean.proofs.AttributeLaws.{left_prefixed}
use Rattle.h5_clean.proofs.laws.what_is_left_of_names_is_prefixed.Goals as goal

pub returns : goal.returns
returns c = left_prefixed
