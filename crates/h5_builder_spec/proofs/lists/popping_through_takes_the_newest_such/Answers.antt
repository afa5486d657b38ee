use Rattle.h5_builder_spec.proofs.entries.SplitLaws.{elements_through, names_through, pops_through, pops_through_alone, pops_to_none}
use Rattle.h5_builder_spec.proofs.lists.popping_through_takes_the_newest_such.Goals as goal

pub returns-clause-takes : goal.returns-clause-takes
returns-clause-takes c = pops_through

pub returns-clause-only : goal.returns-clause-only
returns-clause-only c = pops_through_alone

pub returns-clause-none : goal.returns-clause-none
returns-clause-none c = pops_to_none

pub returns-clause-elements : goal.returns-clause-elements
returns-clause-elements c = elements_through

pub returns-clause-names : goal.returns-clause-names
returns-clause-names c = names_through
