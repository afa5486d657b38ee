use Rattle.std.proofs.Common.{ap, option_map, rules, subst, sym, ◌∙◌}
use Rattle.h5_names.specs.AttributeText.{attribute_texts}
use Rattle.h5_interface.specs.Seen.{changed}
use Rattle.h5_builder_spec.specs.Changes.{insert_and_pop_element, new_element, owned}
use Rattle.h5_builder_spec.specs.insertion.FormOwner.{associates, form_owner}
use Rattle.h5_builder_spec.specs.insertion.Place.{IsPlaceIn, place}
use Rattle.h5_builder_spec.proofs.changes.PlaceLaws.{current_place_is_there}
use Rattle.h5_builder_actions.specs.Places.{place_of}
use Rattle.h5_builder_state.specs.View.{world}
use Rattle.h5_builder_state.proofs.StackLaws.{seen_world}
use Rattle.h5_builder_state.proofs.StepLaws.{sound_rearranged}
use Rattle.h5_builder_actions.proofs.insert.insert_and_pop_element.Goals as goal

pub insert_new_element-requires-clause-place : goal.insert_new_element-requires-clause-place
unfolding world
insert_new_element-requires-clause-place g c =
    let w = world g.S.TreeSink.sees g.S.TreeSink.node c.args.sink.now c.args.state.now in
    subst (IsPlaceIn w.forest) (sym c.current_place-place.ensures) (current_place_is_there w c.requires.sound)

pub returns : goal.returns
unfolding world insert_and_pop_element
returns g c =
    let choices = g.S.TreeSink.choices in
    let node = g.S.TreeSink.node in
    let seen = g.S.TreeSink.sees c.args.sink.now in
    let w = world g.S.TreeSink.sees node c.args.sink.now c.args.state.now in
    let attrs = attribute_texts c.args.attrs.items in
    let flag = c.args.had_duplicate_attributes in
    let name = c.html_qual_name-name.result in
    let fresh = choices.fresh w.forest in
    record {
      world = ap (λ s. seen_world w s w.stack)
          (c.in_ok-insert_new_element.ensures.done
          ∙ ap (λ m. changed (new_element choices (place_of node c.current_place-place.result) name attrs flag m) seen) (c.associated_with-notice.ensures.marking node choices fresh (place_of node c.current_place-place.result))
          ∙ ap (λ p. changed (new_element choices p name attrs flag (associates choices fresh p (option_map node c.form_owner.result))) seen) c.current_place-place.ensures
          ∙ ap (λ o. changed (new_element choices (place w) name attrs flag (associates choices fresh (place w) o)) seen) (c.form_owner.ensures.owner ∙ ap (λ xs. form_owner c.args.local (attribute_texts xs) w) c.as_slice.ensures.value)
          ∙ ap (λ n. changed (new_element choices (place w) n attrs flag (owned choices c.args.local attrs w)) seen) c.html_qual_name-name.ensures);
      quiet = c.insert_new_element.ensures.quiet;
      sound = sound_rearranged g.S.TreeSink _ _ _ c.requires c.insert_new_element.ensures.rearranged;
    }

pub returns-in_err-insert_new_element : goal.returns-in_err-insert_new_element
returns-in_err-insert_new_element g c = record {
  world = search rules;
  quiet = search rules;
  sound = sound_rearranged g.S.TreeSink _ _ _ c.requires c.insert_new_element.ensures.rearranged;
}
