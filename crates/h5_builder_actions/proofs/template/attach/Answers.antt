use Rattle.h5_names.specs.AttributeText.{attribute_texts}
use Rattle.h5_interface.specs.Seen.{attach, changed}
use Rattle.h5_builder_spec.proofs.changes.SoundLaws.{errors_or_not, rearranged_or_not}
use Rattle.h5_builder_state.specs.View.{world}
use Rattle.h5_builder_state.proofs.StackLaws.{seen_world}
use Rattle.h5_builder_state.proofs.StepLaws.{sound_rearranged}
use Rattle.h5_interface.proofs.CallLaws.{attach_rearranges}
use Rattle.h5_builder_actions.proofs.ShadowLaws.{onok_ap}
use Rattle.h5_builder_actions.proofs.template.attach.Goals as goal

pub returns : goal.returns
unfolding world
returns g c =
    let choices = g.S.TreeSink.choices in
    let node = g.S.TreeSink.node in
    let old = g.S.TreeSink.sees c.args.sink.now in
    let new = g.S.TreeSink.sees c.attach_declarative_shadow.new.self in
    let w = world g.S.TreeSink.sees node c.args.sink.now c.args.state.now in
    let attrs = attribute_texts c.args.attrs.now in
    let change = attach choices (node c.args.host.now) (node c.args.template.now) attrs in
    let call = c.attach_declarative_shadow in
    record {
      answer = call.ensures.answer;
      done = onok_ap call.result (λ s. seen_world w s w.stack) new (changed change old) call.ensures.ok;
      quiet = errors_or_not call.result old new change call.ensures.ok call.ensures.err;
      sound = sound_rearranged g.S.TreeSink c.args.sink.now _ c.args.state.now c.requires.sound
          (rearranged_or_not call.result old new change call.ensures.ok call.ensures.err c.requires.sound.sound.stands.is_forest
          (attach_rearranges choices old.forest (node c.args.host.now) (node c.args.template.now) attrs c.requires.sound.sound.stands.is_forest c.requires.host c.requires.template));
    }
