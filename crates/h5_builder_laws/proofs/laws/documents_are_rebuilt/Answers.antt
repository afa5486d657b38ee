use Rattle.h5_builder_laws.proofs.WholeLaws.{rebuilds_all}
use Rattle.h5_builder_laws.proofs.laws.documents_are_rebuilt.Goals as goal

pub returns : goal.returns
returns c = rebuilds_all
