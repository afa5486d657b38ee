use Rattle.std.proofs.Common.{None, ap, rules, subst, sym, ◌∙◌}
use Rattle.h5_names.specs.AttributeText.{attribute_texts}
use Rattle.h5_interface.specs.Seen.{changed}
use Rattle.h5_builder_spec.specs.Changes.{new_element}
use Rattle.h5_builder_spec.specs.insertion.Foreign.{insert_and_pop_foreign_element}
use Rattle.h5_builder_spec.specs.insertion.Place.{IsPlaceIn}
use Rattle.h5_builder_spec.proofs.changes.PlaceLaws.{current_place_is_there}
use Rattle.h5_builder_state.specs.View.{world}
use Rattle.h5_builder_state.proofs.StackLaws.{seen_world}
use Rattle.h5_builder_state.proofs.StepLaws.{sound_rearranged}
use Rattle.h5_builder_actions.proofs.foreign_element.insert_and_pop_foreign_element.Goals as goal

pub insert_new_element-requires-clause-place : goal.insert_new_element-requires-clause-place
unfolding world
insert_new_element-requires-clause-place g c =
    let w = world g.S.TreeSink.sees g.S.TreeSink.node c.args.sink.now c.args.state.now in
    subst (IsPlaceIn w.forest) (sym c.current_place-place.ensures) (current_place_is_there w c.requires.sound)

pub returns-in_err-insert_new_element : goal.returns-in_err-insert_new_element
returns-in_err-insert_new_element g c = record {
  world = search rules;
  quiet = search rules;
  sound = sound_rearranged g.S.TreeSink _ _ _ c.requires c.insert_new_element.ensures.rearranged;
}

pub returns : goal.returns
unfolding world insert_and_pop_foreign_element
returns g c =
    let choices = g.S.TreeSink.choices in
    let seen = g.S.TreeSink.sees c.args.sink.now in
    let w = world g.S.TreeSink.sees g.S.TreeSink.node c.args.sink.now c.args.state.now in
    record {
      world = ap (λ s. seen_world w s w.stack)
          (c.in_ok-insert_new_element.ensures.done
          ∙ ap (λ p. changed (new_element choices p c.args.name (attribute_texts c.args.attrs.items) c.args.had_duplicate_attributes None) seen) c.current_place-place.ensures);
      quiet = c.insert_new_element.ensures.quiet;
      sound = sound_rearranged g.S.TreeSink _ _ _ c.requires c.insert_new_element.ensures.rearranged;
    }
