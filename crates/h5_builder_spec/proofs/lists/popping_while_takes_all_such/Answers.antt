use Rattle.h5_builder_spec.proofs.entries.SplitLaws.{pops_all, pops_all_alone}
use Rattle.h5_builder_spec.proofs.lists.popping_while_takes_all_such.Goals as goal

pub returns-clause-takes : goal.returns-clause-takes
returns-clause-takes c = pops_all

pub returns-clause-only : goal.returns-clause-only
returns-clause-only c = pops_all_alone
