use Rattle.h5_builder_spec.proofs.entries.SplitLaws.{pops_down, pops_down_alone}
use Rattle.h5_builder_spec.proofs.lists.popping_down_stops_at_the_newest_such.Goals as goal

pub returns-clause-takes : goal.returns-clause-takes
returns-clause-takes c = pops_down

pub returns-clause-only : goal.returns-clause-only
returns-clause-only c = pops_down_alone
