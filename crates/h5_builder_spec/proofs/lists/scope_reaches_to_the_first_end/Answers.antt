use Rattle.h5_builder_spec.proofs.entries.SplitLaws.{has_in_scope, in_scope_if}
use Rattle.h5_builder_spec.proofs.lists.scope_reaches_to_the_first_end.Goals as goal

pub returns-clause-has : goal.returns-clause-has
returns-clause-has c = has_in_scope

pub returns-clause-only : goal.returns-clause-only
returns-clause-only c = in_scope_if
