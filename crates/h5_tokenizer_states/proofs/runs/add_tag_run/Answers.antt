use Rattle.h5_tokenizer_states.proofs.NameLaws.{attribute_name_is_name}
use Rattle.h5_tokenizer_states.proofs.runs.add_tag_run.Goals as goal

pub push_attribute_run-requires : goal.push_attribute_run-requires
push_attribute_run-requires c = attribute_name_is_name c.args.front.now (rw c.in-AttributeName.is at c.requires)
