use Rattle.h5_builder_spec.proofs.entries.PassLaws.{stack_split, without_node_split}
use Rattle.h5_builder_spec.proofs.entries.RoundLaws.{inserted_after_at, without_entry_at}
use Rattle.h5_builder_spec.proofs.lists.elements_and_entries_are_found.Goals as goal

pub returns-clause-parts : goal.returns-clause-parts
returns-clause-parts c = stack_split

pub returns-clause-node_left : goal.returns-clause-node_left
returns-clause-node_left c = without_node_split

pub returns-clause-inserted : goal.returns-clause-inserted
returns-clause-inserted c = inserted_after_at

pub returns-clause-entry_left : goal.returns-clause-entry_left
returns-clause-entry_left c = without_entry_at
