use Rattle.h5_builder_spec.proofs.entries.PassLaws.{lists_adopted}
use Rattle.h5_builder_spec.proofs.lists.adopting_keeps_lists.Goals as goal

pub returns : goal.returns
returns c = lists_adopted
