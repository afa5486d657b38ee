use Rattle.std.proofs.Common.{rules, subst, sym}
use Rattle.h5_builder_spec.specs.Changes.{append_comment}
use Rattle.h5_builder_spec.specs.insertion.Place.{IsPlaceIn}
use Rattle.h5_builder_spec.proofs.changes.PlaceLaws.{current_place_is_there}
use Rattle.h5_builder_state.specs.View.{world}
use Rattle.h5_builder_state.proofs.StepLaws.{sound_rearranged}
use Rattle.h5_builder_actions.proofs.insert.append_comment.Goals as goal

pub insert_new_comment-requires-clause-place : goal.insert_new_comment-requires-clause-place
unfolding world
insert_new_comment-requires-clause-place g c =
    let w = world g.S.TreeSink.sees g.S.TreeSink.node c.args.sink.now c.args.state.now in
    subst (IsPlaceIn w.forest) (sym c.current_place-place.ensures) (current_place_is_there w c.requires.sound)

pub returns : goal.returns
unfolding world append_comment
returns g c = record {
  world = search rules;
  quiet = search rules;
  sound = sound_rearranged g.S.TreeSink _ _ _ c.requires c.insert_new_comment.ensures.rearranged;
}
