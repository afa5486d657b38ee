use Rattle.h5_builder_laws.proofs.kept.FittingLaws.{token_fitting}
use Rattle.h5_builder_laws.proofs.mode_laws.what_is_kept_stays.Goals as goal

pub returns : goal.returns
returns c = token_fitting
