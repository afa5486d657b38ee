use Rattle.h5_builder_spec.proofs.entries.WalkLaws.{to_clone_walked}
use Rattle.h5_builder_spec.proofs.lists.the_inner_loop_replaces_at_once.Goals as goal

pub returns : goal.returns
returns c = to_clone_walked
