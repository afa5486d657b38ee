use Rattle.h5_builder_spec.proofs.entries.PushLaws.{few_pushed, push_free}
use Rattle.h5_builder_spec.proofs.entries.StepLaws.{push_gives_up}
use Rattle.h5_builder_spec.proofs.lists.pushing_keeps_three_alike.Goals as goal

pub returns-clause-full : goal.returns-clause-full
returns-clause-full c = push_gives_up

pub returns-clause-free : goal.returns-clause-free
returns-clause-free c = push_free

pub returns-clause-few : goal.returns-clause-few
returns-clause-few c = few_pushed
