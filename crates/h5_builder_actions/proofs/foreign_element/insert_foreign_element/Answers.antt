use Rattle.std.proofs.Common.{None, ◌∷◌, ap, rules, sym, subst, ◌∙◌}
use Rattle.h5_names.specs.AttributeText.{attribute_texts}
use Rattle.h5_interface.specs.Seen.{Seen, changed}
use Rattle.h5_builder_spec.specs.Changes.{new_element}
use Rattle.h5_builder_spec.specs.insertion.Foreign.{insert_foreign_element}
use Rattle.h5_builder_spec.specs.insertion.Place.{IsPlaceIn, place}
use Rattle.h5_builder_spec.specs.Sound.{AllStand}
use Rattle.h5_builder_spec.proofs.changes.ForeignLaws.{insert_foreign_stands}
use Rattle.h5_builder_spec.proofs.changes.PlaceLaws.{current_place_is_there}
use Rattle.h5_builder_state.specs.View.{world}
use Rattle.h5_builder_actions.proofs.PutLaws.{same_world}
use Rattle.h5_builder_state.proofs.AttributeLaws.{on_ok}
use Rattle.h5_builder_state.proofs.StepLaws.{sound_rearranged}
use Rattle.h5_builder_actions.proofs.foreign_element.insert_foreign_element.Goals as goal

pub insert_new_element-requires-clause-place : goal.insert_new_element-requires-clause-place
unfolding world
insert_new_element-requires-clause-place g c =
    let w = world g.S.TreeSink.sees g.S.TreeSink.node c.args.sink.now c.args.state.now in
    subst (IsPlaceIn w.forest) (sym c.current_place-place.ensures) (current_place_is_there w c.requires.sound)

pub returns-in_err-handle : goal.returns-in_err-handle
returns-in_err-handle g c = record {
  world = search rules;
  quiet = search rules;
  sound = sound_rearranged g.S.TreeSink _ _ _ c.requires c.insert_new_element.ensures.rearranged;
}

pub push_open-requires-clause-sound : goal.push_open-requires-clause-sound
push_open-requires-clause-sound g c = sound_rearranged g.S.TreeSink _ _ _ c.requires c.insert_new_element.ensures.rearranged

pub push_open-requires-clause-stands : goal.push_open-requires-clause-stands
unfolding world insert_foreign_element
push_open-requires-clause-stands g c =
    let choices = g.S.TreeSink.choices in
    let seen = g.S.TreeSink.sees c.args.sink.now in
    let w = world g.S.TreeSink.sees g.S.TreeSink.node c.args.sink.now c.args.state.now in
    let attrs = attribute_texts c.args.attrs.items in
    let flag = c.args.had_duplicate_attributes in
    let s = g.S.TreeSink.node c.in_ok-handle.handle ∷ w.stack in
    let done = c.in_ok-handle.ensures.done ∙ ap (λ p. changed (new_element choices p c.args.name attrs flag None) seen) c.current_place-place.ensures in
    subst (λ (now : Seen). AllStand now.forest s w.formatting w.head w.form w.context) (sym done)
    (subst (λ z. AllStand (new_element choices (place w) c.args.name attrs flag None seen.forest) z w.formatting w.head w.form w.context) (sym (ap (λ n. n ∷ w.stack) c.in_ok-handle.ensures.handle))
    (insert_foreign_stands choices c.args.name attrs flag w c.requires.sound))

pub returns : goal.returns
unfolding world insert_foreign_element
returns g c =
    let choices = g.S.TreeSink.choices in
    let seen = g.S.TreeSink.sees c.args.sink.now in
    let w = world g.S.TreeSink.sees g.S.TreeSink.node c.args.sink.now c.args.state.now in
    let attrs = attribute_texts c.args.attrs.items in
    let flag = c.args.had_duplicate_attributes in
    record {
      world = on_ok c.push_open.result
          (λ e. e
          ∙ same_world w (g.S.TreeSink.sees c.insert_new_element.new.sink) (changed (new_element choices (place w) c.args.name attrs flag None) seen) _ _
          (c.in_ok-handle.ensures.done ∙ ap (λ p. changed (new_element choices p c.args.name attrs flag None) seen) c.current_place-place.ensures)
          (ap (λ n. n ∷ w.stack) c.in_ok-handle.ensures.handle))
          c.push_open.ensures.world;
      quiet = c.push_open.ensures.quiet ∙ c.insert_new_element.ensures.quiet;
      sound = c.push_open.ensures.sound;
    }
