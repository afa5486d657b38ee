use Rattle.std.proofs.Common.{◌∷◌, codes, ap, sym, subst, ◌∙◌}
use Rattle.h5_names.specs.AttributeText.{attribute_texts}
use Rattle.h5_interface.specs.NewElement.{flags_of}
use Rattle.h5_interface.specs.Seen.{Seen, changed, make_element}
use Rattle.h5_interface.proofs.MakingLaws.{make_element_rearranges}
use Rattle.h5_builder_spec.specs.formatting.FormattingNames.{html_name}
use Rattle.h5_builder_spec.specs.Sound.{AllStand}
use Rattle.h5_builder_spec.specs.insertion.Templates.{push_loose_template}
use Rattle.h5_builder_spec.proofs.changes.SoundLaws.{element_is_node}
use Rattle.h5_builder_spec.proofs.changes.TemplateLaws.{loose_stands}
use Rattle.h5_builder_state.specs.View.{world}
use Rattle.h5_builder_actions.proofs.PutLaws.{same_world, seen_rearranged}
use Rattle.h5_builder_state.proofs.StackLaws.{seen_world}
use Rattle.h5_builder_state.proofs.StepLaws.{sound_rearranged, sound_told}
use Rattle.h5_builder_actions.proofs.template.push_loose_template.Goals as goal

pub returns-in_err-handle-clause-sound : goal.returns-in_err-handle-clause-sound
unfolding world
returns-in_err-handle-clause-sound g c =
    let w = world g.S.TreeSink.sees g.S.TreeSink.node c.args.sink.now c.args.state.now in
    sound_told g.S.TreeSink c.args.sink.now _ c.args.state.now (ap (λ s. seen_world w s w.stack) c.in_err-handle.ensures.err) c.requires

pub clone_handle-template-requires : goal.clone_handle-template-requires
clone_handle-template-requires g c =
    element_is_node (g.S.TreeSink.sees c.create_element_with_flags.new.sink).forest (g.S.TreeSink.node c.in_ok-handle.handle) c.in_ok-handle.ensures.element

pub push_open-requires-clause-sound : goal.push_open-requires-clause-sound
unfolding world
push_open-requires-clause-sound g c =
    let choices = g.S.TreeSink.choices in
    let seen = g.S.TreeSink.sees c.args.sink.now in
    let mid = g.S.TreeSink.sees c.create_element_with_flags.new.sink in
    let attrs = attribute_texts c.args.attrs.items in
    let name = c.html_qual_name-name.result in
    let flags = flags_of name attrs c.args.had_duplicate_attributes in
    let r = seen_rearranged seen mid (make_element choices name attrs flags) c.in_ok-handle.ensures.ok (make_element_rearranges choices seen.forest name attrs flags c.requires.sound.stands.is_forest) in
    sound_rearranged g.S.TreeSink c.args.sink.now c.create_element_with_flags.new.sink c.args.state.now c.requires r

pub push_open-requires-clause-stands : goal.push_open-requires-clause-stands
unfolding world push_loose_template
push_open-requires-clause-stands g c =
    let choices = g.S.TreeSink.choices in
    let seen = g.S.TreeSink.sees c.args.sink.now in
    let w = world g.S.TreeSink.sees g.S.TreeSink.node c.args.sink.now c.args.state.now in
    let attrs = attribute_texts c.args.attrs.items in
    let flag = c.args.had_duplicate_attributes in
    let template = html_name (codes "template") in
    let s = g.S.TreeSink.node c.in_ok-handle.handle ∷ w.stack in
    let done = c.in_ok-handle.ensures.ok ∙ ap (λ name. changed (make_element choices name attrs (flags_of name attrs flag)) seen) (c.html_qual_name-name.ensures ∙ ap html_name c.from_known.ensures) in
    subst (λ (now : Seen). AllStand now.forest s w.formatting w.head w.form w.context) (sym done)
    (subst (λ z. AllStand (make_element choices template attrs (flags_of template attrs flag) seen.forest) z w.formatting w.head w.form w.context) (sym (ap (λ n. n ∷ w.stack) c.in_ok-handle.ensures.handle))
    (loose_stands choices attrs flag w c.requires.sound))

pub returns-clause-done : goal.returns-clause-done
unfolding world push_loose_template
returns-clause-done g c =
    let choices = g.S.TreeSink.choices in
    let seen = g.S.TreeSink.sees c.args.sink.now in
    let w = world g.S.TreeSink.sees g.S.TreeSink.node c.args.sink.now c.args.state.now in
    let attrs = attribute_texts c.args.attrs.items in
    let flag = c.args.had_duplicate_attributes in
    let template = html_name (codes "template") in
    c.in_ok-push_open.ensures.world
    ∙ same_world w (g.S.TreeSink.sees c.create_element_with_flags.new.sink) (changed (make_element choices template attrs (flags_of template attrs flag)) seen) _ _
    (c.in_ok-handle.ensures.ok ∙ ap (λ name. changed (make_element choices name attrs (flags_of name attrs flag)) seen) (c.html_qual_name-name.ensures ∙ ap html_name c.from_known.ensures))
    (ap (λ n. n ∷ w.stack) c.in_ok-handle.ensures.handle)
