use Rattle.std.proofs.Common.{sym, subst, rules}
use Rattle.h5_interface.specs.Forest.{IsNode}
use Rattle.h5_builder_spec.specs.Changes.{append_comment_to_html}
use Rattle.h5_builder_spec.proofs.changes.SoundLaws.{root_is_node}
use Rattle.h5_builder_state.specs.View.{world}
use Rattle.h5_builder_state.proofs.StepLaws.{sound_rearranged}
use Rattle.h5_builder_actions.proofs.insert.append_comment_to_html.Goals as goal

pub insert_new_comment-requires-clause-place : goal.insert_new_comment-requires-clause-place
unfolding world
insert_new_comment-requires-clause-place g c =
    subst (IsNode (g.S.TreeSink.sees c.args.sink.now).forest) (sym c.root_node.ensures)
    (root_is_node (world g.S.TreeSink.sees g.S.TreeSink.node c.args.sink.now c.args.state.now) c.requires.sound)

pub returns : goal.returns
unfolding world append_comment_to_html
returns g c = record {
  world = search rules;
  quiet = search rules;
  sound = sound_rearranged g.S.TreeSink _ _ _ c.requires c.insert_new_comment.ensures.rearranged;
}
