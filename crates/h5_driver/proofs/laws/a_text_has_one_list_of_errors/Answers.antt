use Rattle.h5_driver.proofs.ErrorLaws.{texts_have_one_list}
use Rattle.h5_driver.proofs.laws.a_text_has_one_list_of_errors.Goals as goal

pub returns : goal.returns
returns c = texts_have_one_list
