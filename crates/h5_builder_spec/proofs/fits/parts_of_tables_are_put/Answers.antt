use Rattle.h5_builder_spec.proofs.fitting.NamesTableLaws.{names_caption_put, names_cell_put, names_colgroup_put, names_row_put, names_section_put}
use Rattle.h5_builder_spec.proofs.fits.parts_of_tables_are_put.Goals as goal

pub returns-clause-caption : goal.returns-clause-caption
returns-clause-caption c = names_caption_put

pub returns-clause-colgroup : goal.returns-clause-colgroup
returns-clause-colgroup c = names_colgroup_put

pub returns-clause-section : goal.returns-clause-section
returns-clause-section c = names_section_put

pub returns-clause-row : goal.returns-clause-row
returns-clause-row c = names_row_put

pub returns-clause-cell : goal.returns-clause-cell
returns-clause-cell c = names_cell_put
