use Rattle.h5_builder_spec.proofs.entries.PushLaws.{lists_push_formatting}
use Rattle.h5_builder_spec.proofs.lists.formatting_keeps_lists.Goals as goal

pub returns : goal.returns
returns c = lists_push_formatting
