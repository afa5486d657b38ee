use Rattle.std.proofs.Common.{ap, subst, sym, ◌∙◌}
use Rattle.h5_names.specs.AttributeText.{attribute_texts}
use Rattle.h5_builder_spec.specs.Changes.{insert_script, push_new, starts_marked}
use Rattle.h5_builder_spec.specs.insertion.Place.{IsPlaceIn, place}
use Rattle.h5_builder_spec.proofs.changes.PlaceLaws.{current_place_is_there, first_place}
use Rattle.h5_builder_actions.specs.Notices.{marking_of}
use Rattle.h5_builder_actions.specs.Places.{place_of}
use Rattle.h5_builder_state.specs.View.{world}
use Rattle.h5_builder_actions.proofs.PutLaws.{onok_then}
use Rattle.h5_builder_actions.proofs.insert.insert_script.Goals as goal

pub push_element_at-requires-clause-place : goal.push_element_at-requires-clause-place
push_element_at-requires-clause-place g c =
    let w = world g.S.TreeSink.sees g.S.TreeSink.node c.args.sink.now c.args.state.now in
    subst (IsPlaceIn w.forest) (sym c.current_place-place.ensures) (current_place_is_there w c.requires.sound)

pub push_element_at-requires-clause-first : goal.push_element_at-requires-clause-first
push_element_at-requires-clause-first g c =
    let w = world g.S.TreeSink.sees g.S.TreeSink.node c.args.sink.now c.args.state.now in
    λ e. c.current_place-place.ensures ∙ first_place w c.requires.sound.stands.is_forest e

pub returns : goal.returns
unfolding world insert_script
returns g c =
    let choices = g.S.TreeSink.choices in
    let node = g.S.TreeSink.node in
    let w = world g.S.TreeSink.sees node c.args.sink.now c.args.state.now in
    let attrs = attribute_texts c.args.attrs.items in
    let flag = c.args.had_duplicate_attributes in
    let p = place_of node c.current_place-place.result in
    let local = c.from_known.result in
    let marks = marking_of node choices c.script_notice-notice.result (choices.fresh w.forest) p in
    record {
      world = onok_then c.push_element_at.result (world g.S.TreeSink.sees node c.push_element_at.new.sink c.push_element_at.new.state) (push_new choices p local attrs flag marks w) (insert_script choices attrs flag w) c.push_element_at.ensures.done
          (ap (λ m. push_new choices p local attrs flag m w) (c.script_notice-notice.ensures.marking p)
          ∙ ap (λ q. push_new choices q local attrs flag (starts_marked choices w) w) c.current_place-place.ensures
          ∙ ap (λ l. push_new choices (place w) l attrs flag (starts_marked choices w) w) c.from_known.ensures);
      quiet = c.push_element_at.ensures.quiet;
      sound = c.push_element_at.ensures.sound;
    }
