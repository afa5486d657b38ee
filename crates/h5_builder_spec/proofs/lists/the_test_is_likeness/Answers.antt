use Rattle.h5_builder_spec.proofs.entries.AlikeLaws.{alike_telling, alike_told}
use Rattle.h5_builder_spec.proofs.lists.the_test_is_likeness.Goals as goal

pub returns-clause-told : goal.returns-clause-told
returns-clause-told c = alike_told

pub returns-clause-telling : goal.returns-clause-telling
returns-clause-telling c = alike_telling
