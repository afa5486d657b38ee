use Rattle.h5_builder_spec.proofs.fitting.TableSectionLaws.{section_above_root}
use Rattle.h5_builder_spec.proofs.fits.a_closed_row_group_is_not_the_root.Goals as goal

pub returns : goal.returns
returns c = section_above_root
