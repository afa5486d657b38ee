use Rattle.h5_tables.specs.AdjustedNames.{mathml_attributes}
use Rattle.h5_tables.proofs.attributes.adjust_mathml_attributes.Goals as goal

pub returns : goal.returns
unfolding mathml_attributes
returns c = c.rename_all.ensures
