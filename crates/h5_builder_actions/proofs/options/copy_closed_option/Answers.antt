use Rattle.std.proofs.Common.{ap, cond, sym, ◌∙◌}
use Rattle.h5_interface.specs.Forest.{Forest}
use Rattle.h5_interface.specs.Seen.{Seen}
use Rattle.h5_builder_spec.specs.Changes.{with_forest}
use Rattle.h5_builder_spec.specs.stack.Closing.{copy_closed_option}
use Rattle.h5_builder_spec.proofs.changes.SoundLaws.{element_is_node, errors_or_not, rearranged_or_not}
use Rattle.h5_builder_state.specs.View.{world}
use Rattle.h5_builder_state.proofs.AttributeLaws.{on_ok}
use Rattle.h5_builder_state.proofs.StackLaws.{seen_world}
use Rattle.h5_builder_state.proofs.StepLaws.{sound_rearranged}
use Rattle.h5_builder_actions.proofs.options.copy_closed_option.Goals as goal

pub returns-else-is_some : goal.returns-else-is_some
unfolding world copy_closed_option
returns-else-is_some g c =
    let law = g.S.TreeSink in
    let n = law.node c.args.option.now in
    let seen = law.sees c.args.sink.now in
    let copied = c.maybe_clone_an_option_into_selectedcontent in
    let change : Forest → Forest = λ f. law.choices.after_option_copy f n in
    let w = world law.sees law.node c.args.sink.now c.args.state.now in
    let closed = sym c.find_open.ensures.found ∙ sym c.is_some.ensures ∙ c.if-is_some.false in
    record {
      world = on_ok copied.result
          (λ e. ap (λ (s : Seen). seen_world w s w.stack) e ∙ ap (λ b. with_forest (cond b w.forest (change w.forest)) w) (sym closed))
          copied.ensures.ok;
      quiet = errors_or_not copied.result seen (law.sees copied.new.self) change copied.ensures.ok copied.ensures.err;
      sound = sound_rearranged law c.args.sink.now copied.new.self c.args.state.now c.requires.sound
          (rearranged_or_not copied.result seen (law.sees copied.new.self) change copied.ensures.ok copied.ensures.err c.requires.sound.sound.stands.is_forest
          (law.choices.option_copy_rearranges seen.forest n c.requires.sound.sound.stands.is_forest (element_is_node seen.forest n c.requires.element)));
    }
