use Rattle.std.proofs.Common.{rules, subst, sym}
use Rattle.h5_builder_spec.specs.Changes.{append_text}
use Rattle.h5_builder_spec.specs.insertion.Place.{IsPlaceIn}
use Rattle.h5_builder_spec.proofs.changes.PlaceLaws.{current_place_is_there}
use Rattle.h5_builder_state.specs.View.{world}
use Rattle.h5_builder_state.proofs.StepLaws.{sound_rearranged}
use Rattle.h5_builder_actions.proofs.insert.append_text.Goals as goal

pub insert_text-requires-clause-place : goal.insert_text-requires-clause-place
unfolding world
insert_text-requires-clause-place g c =
    let w = world g.S.TreeSink.sees g.S.TreeSink.node c.args.sink.now c.args.state.now in
    subst (IsPlaceIn w.forest) (sym c.current_place-place.ensures) (current_place_is_there w c.requires.sound.sound)

pub returns : goal.returns
unfolding world append_text
returns g c = record {
  world = search rules;
  quiet = search rules;
  sound = sound_rearranged g.S.TreeSink _ _ _ c.requires.sound c.insert_text.ensures.rearranged;
}
