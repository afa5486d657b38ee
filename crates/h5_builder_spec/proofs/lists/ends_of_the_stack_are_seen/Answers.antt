use Rattle.h5_builder_spec.proofs.entries.SplitLaws.{first_passes_if, has_current, has_second, second_is_if}
use Rattle.h5_builder_spec.proofs.lists.ends_of_the_stack_are_seen.Goals as goal

pub returns-clause-second : goal.returns-clause-second
returns-clause-second c = has_second

pub returns-clause-second_only : goal.returns-clause-second_only
returns-clause-second_only c = second_is_if

pub returns-clause-current : goal.returns-clause-current
returns-clause-current c = has_current

pub returns-clause-current_only : goal.returns-clause-current_only
returns-clause-current_only c = first_passes_if
