use Rattle.h5_tree_builder.proofs.BuilderLaws.{stamped_none}
use Rattle.h5_tree_builder.proofs.first_state.first_state.Goals as goal

pub returns-clause-stamped : goal.returns-clause-stamped
returns-clause-stamped g c = stamped_none _ _ _ c.new-4.ensures
