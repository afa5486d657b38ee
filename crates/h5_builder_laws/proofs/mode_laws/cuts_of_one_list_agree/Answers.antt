use Rattle.h5_builder_laws.proofs.cuts.JoinLaws.{equal_joins}
use Rattle.h5_builder_laws.proofs.mode_laws.cuts_of_one_list_agree.Goals as goal

pub returns : goal.returns
returns c = equal_joins
