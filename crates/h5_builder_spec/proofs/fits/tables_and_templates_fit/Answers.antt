use Rattle.h5_builder_spec.proofs.fitting.NamesTableLaws.{names_table_closed, names_table_put, names_template_closed, names_template_mode, names_template_put}
use Rattle.h5_builder_spec.proofs.fits.tables_and_templates_fit.Goals as goal

pub returns-clause-table : goal.returns-clause-table
returns-clause-table c = names_table_put

pub returns-clause-table_closed : goal.returns-clause-table_closed
returns-clause-table_closed c = names_table_closed

pub returns-clause-template : goal.returns-clause-template
returns-clause-template c = names_template_put

pub returns-clause-template_closed : goal.returns-clause-template_closed
returns-clause-template_closed c = names_template_closed

pub returns-clause-other : goal.returns-clause-other
returns-clause-other c = names_template_mode
