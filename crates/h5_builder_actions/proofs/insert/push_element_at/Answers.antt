use Rattle.std.proofs.Common.{◌∷◌, ap, sym, subst, ◌∙◌}
use Rattle.h5_names.specs.AttributeText.{attribute_texts}
use Rattle.h5_interface.specs.Seen.{Seen, changed}
use Rattle.h5_builder_spec.specs.Changes.{new_element}
use Rattle.h5_builder_spec.specs.Sound.{AllStand}
use Rattle.h5_builder_spec.specs.formatting.FormattingNames.{html_name}
use Rattle.h5_builder_spec.proofs.changes.PlaceLaws.{all_inserted}
use Rattle.h5_builder_actions.specs.Notices.{marking_of}
use Rattle.h5_builder_actions.specs.Places.{place_of}
use Rattle.h5_builder_state.specs.View.{world}
use Rattle.h5_builder_actions.proofs.PutLaws.{same_world}
use Rattle.h5_builder_state.proofs.AttributeLaws.{on_ok}
use Rattle.h5_builder_state.proofs.StepLaws.{sound_rearranged}
use Rattle.h5_builder_actions.proofs.insert.push_element_at.Goals as goal

pub returns-in_err-handle-clause-sound : goal.returns-in_err-handle-clause-sound
returns-in_err-handle-clause-sound g c = sound_rearranged g.S.TreeSink _ _ _ c.requires.sound c.insert_new_element.ensures.rearranged

pub push_open-requires-clause-sound : goal.push_open-requires-clause-sound
push_open-requires-clause-sound g c = sound_rearranged g.S.TreeSink _ _ _ c.requires.sound c.insert_new_element.ensures.rearranged

pub push_open-requires-clause-stands : goal.push_open-requires-clause-stands
unfolding world
push_open-requires-clause-stands g c =
    let seen = g.S.TreeSink.sees c.args.sink.now in
    let w = world g.S.TreeSink.sees g.S.TreeSink.node c.args.sink.now c.args.state.now in
    let attrs = attribute_texts c.args.attrs.items in
    let flag = c.args.had_duplicate_attributes in
    let p = place_of g.S.TreeSink.node c.args.place.now in
    let marks = marking_of g.S.TreeSink.node g.S.TreeSink.choices c.args.notice (g.S.TreeSink.choices.fresh seen.forest) p in
    let name = c.html_qual_name-name.result in
    let s = g.S.TreeSink.node c.in_ok-handle.handle ∷ w.stack in
    subst (λ (now : Seen). AllStand now.forest s w.formatting w.head w.form w.context) (sym c.in_ok-handle.ensures.done)
    (subst (λ z. AllStand (new_element g.S.TreeSink.choices p name attrs flag marks seen.forest) z w.formatting w.head w.form w.context) (sym (ap (λ n. n ∷ w.stack) c.in_ok-handle.ensures.handle))
    (all_inserted g.S.TreeSink.choices p name attrs flag marks w c.requires.sound.sound c.requires.place c.requires.first))

pub returns-clause-done : goal.returns-clause-done
unfolding world
returns-clause-done g c =
    let seen = g.S.TreeSink.sees c.args.sink.now in
    let w = world g.S.TreeSink.sees g.S.TreeSink.node c.args.sink.now c.args.state.now in
    let attrs = attribute_texts c.args.attrs.items in
    let flag = c.args.had_duplicate_attributes in
    let p = place_of g.S.TreeSink.node c.args.place.now in
    let marks = marking_of g.S.TreeSink.node g.S.TreeSink.choices c.args.notice (g.S.TreeSink.choices.fresh seen.forest) p in
    on_ok c.push_open.result
    (λ e. e
    ∙ same_world w (g.S.TreeSink.sees c.insert_new_element.new.sink) (changed (new_element g.S.TreeSink.choices p (html_name c.args.local) attrs flag marks) seen) _ _
    (c.in_ok-handle.ensures.done ∙ ap (λ name. changed (new_element g.S.TreeSink.choices p name attrs flag marks) seen) c.html_qual_name-name.ensures)
    (ap (λ n. n ∷ w.stack) c.in_ok-handle.ensures.handle))
    c.push_open.ensures.world
