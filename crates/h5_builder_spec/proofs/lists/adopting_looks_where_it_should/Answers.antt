use Rattle.h5_builder_spec.proofs.entries.PassLaws.{furthest_block_at, furthest_block_none, newest_named_at, newest_named_none}
use Rattle.h5_builder_spec.proofs.lists.adopting_looks_where_it_should.Goals as goal

pub returns-clause-element : goal.returns-clause-element
returns-clause-element c = newest_named_at

pub returns-clause-no_element : goal.returns-clause-no_element
returns-clause-no_element c = newest_named_none

pub returns-clause-block : goal.returns-clause-block
returns-clause-block c = furthest_block_at

pub returns-clause-no_block : goal.returns-clause-no_block
returns-clause-no_block c = furthest_block_none
