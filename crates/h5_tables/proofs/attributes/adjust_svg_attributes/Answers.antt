use Rattle.h5_tables.specs.AdjustedNames.{svg_attributes}
use Rattle.h5_tables.proofs.attributes.adjust_svg_attributes.Goals as goal

pub returns : goal.returns
unfolding svg_attributes
returns c = c.rename_all.ensures
