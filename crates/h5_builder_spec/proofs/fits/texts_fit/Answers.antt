use Rattle.h5_builder_spec.proofs.fitting.NamesFitLaws.{names_table_text_begun, names_table_text_ended, names_text_popped, names_text_pushed}
use Rattle.h5_builder_spec.proofs.fits.texts_fit.Goals as goal

pub returns-clause-begun : goal.returns-clause-begun
returns-clause-begun c = names_text_pushed

pub returns-clause-ended : goal.returns-clause-ended
returns-clause-ended c = names_text_popped

pub returns-clause-in_table : goal.returns-clause-in_table
returns-clause-in_table c = names_table_text_begun

pub returns-clause-table_again : goal.returns-clause-table_again
returns-clause-table_again c = names_table_text_ended
