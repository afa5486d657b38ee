use Rattle.std.proofs.Common.{ap, option_map, subst, sym, ◌∙◌}
use Rattle.h5_names.specs.AttributeText.{attribute_texts}
use Rattle.h5_builder_spec.specs.Changes.{insert_element, push_new}
use Rattle.h5_builder_spec.specs.insertion.FormOwner.{associates, form_owner}
use Rattle.h5_builder_spec.specs.insertion.Place.{IsPlaceIn, place}
use Rattle.h5_builder_spec.proofs.changes.PlaceLaws.{current_place_is_there, first_place}
use Rattle.h5_builder_actions.specs.Notices.{marking_of}
use Rattle.h5_builder_actions.specs.Places.{place_of}
use Rattle.h5_builder_state.specs.View.{world}
use Rattle.h5_builder_actions.proofs.PutLaws.{onok_then}
use Rattle.h5_builder_actions.proofs.insert.insert_element.Goals as goal

pub push_element_at-requires-clause-place : goal.push_element_at-requires-clause-place
push_element_at-requires-clause-place g c =
    let w = world g.S.TreeSink.sees g.S.TreeSink.node c.args.sink.now c.args.state.now in
    subst (IsPlaceIn w.forest) (sym c.current_place-place.ensures) (current_place_is_there w c.requires.sound)

pub push_element_at-requires-clause-first : goal.push_element_at-requires-clause-first
push_element_at-requires-clause-first g c =
    let w = world g.S.TreeSink.sees g.S.TreeSink.node c.args.sink.now c.args.state.now in
    λ e. c.current_place-place.ensures ∙ first_place w c.requires.sound.stands.is_forest e

pub returns : goal.returns
unfolding world insert_element
returns g c =
    let choices = g.S.TreeSink.choices in
    let w = world g.S.TreeSink.sees g.S.TreeSink.node c.args.sink.now c.args.state.now in
    let attrs = attribute_texts c.args.attrs.items in
    let flag = c.args.had_duplicate_attributes in
    let fresh = choices.fresh w.forest in
    let p = place_of g.S.TreeSink.node c.current_place-place.result in
    let node = g.S.TreeSink.node in
    let owner = option_map node c.form_owner.result in
    record {
      world = onok_then c.push_element_at.result (world g.S.TreeSink.sees node c.push_element_at.new.sink c.push_element_at.new.state) (push_new choices p c.args.local attrs flag (marking_of node choices c.associated_with-notice.result fresh p) w) (insert_element choices c.args.local attrs flag w) c.push_element_at.ensures.done
          (ap (λ m. push_new choices p c.args.local attrs flag m w) (c.associated_with-notice.ensures.marking node choices fresh p)
          ∙ ap (λ p. push_new choices p c.args.local attrs flag (associates choices fresh p owner) w) c.current_place-place.ensures
          ∙ ap (λ o. push_new choices (place w) c.args.local attrs flag (associates choices fresh (place w) o) w)
          (c.form_owner.ensures.owner ∙ ap (λ xs. form_owner c.args.local (attribute_texts xs) w) c.as_slice.ensures.value));
      quiet = c.push_element_at.ensures.quiet;
      sound = c.push_element_at.ensures.sound;
    }
