use Rattle.h5_driver.proofs.ErrorLaws.{documents_have_none}
use Rattle.h5_driver.proofs.laws.documents_have_no_errors.Goals as goal

pub returns : goal.returns
returns c = documents_have_none
