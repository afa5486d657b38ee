use Rattle.h5_tables.specs.AdjustedNames.{foreign_attributes}
use Rattle.h5_tables.proofs.attributes.adjust_foreign_attributes.Goals as goal

pub returns : goal.returns
unfolding foreign_attributes
returns c = c.rename_all.ensures
