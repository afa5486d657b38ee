use Rattle.std.proofs.Common.{rules}
use Rattle.h5_builder_spec.specs.Changes.{append_comment_to_doc}
use Rattle.h5_builder_state.specs.View.{world}
use Rattle.h5_builder_state.proofs.StepLaws.{sound_rearranged}
use Rattle.h5_builder_actions.proofs.insert.append_comment_to_doc.Goals as goal

pub returns : goal.returns
unfolding world append_comment_to_doc
returns g c = record {
  world = search rules;
  quiet = search rules;
  sound = sound_rearranged g.S.TreeSink _ _ _ c.requires c.insert_new_comment.ensures.rearranged;
}
