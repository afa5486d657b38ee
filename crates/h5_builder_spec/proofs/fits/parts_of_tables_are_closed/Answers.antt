use Rattle.h5_builder_spec.proofs.fitting.NamesTableLaws.{names_caption_closed, names_cell_closed, names_colgroup_popped, names_row_closed, names_section_closed}
use Rattle.h5_builder_spec.proofs.fits.parts_of_tables_are_closed.Goals as goal

pub returns-clause-caption : goal.returns-clause-caption
returns-clause-caption c = names_caption_closed

pub returns-clause-colgroup : goal.returns-clause-colgroup
returns-clause-colgroup c = names_colgroup_popped

pub returns-clause-section : goal.returns-clause-section
returns-clause-section c = names_section_closed

pub returns-clause-row : goal.returns-clause-row
returns-clause-row c = names_row_closed

pub returns-clause-cell : goal.returns-clause-cell
returns-clause-cell c = names_cell_closed
