use Rattle.std.proofs.Common.{ℕ, ap, subst, sym, ◌∙◌}
use Rattle.h5_interface.specs.Changes.{mark}
use Rattle.h5_interface.specs.Seen.{Seen}
use Rattle.h5_interface.specs.SinkChoices.{Rearranges}
use Rattle.h5_interface.proofs.MakingLaws.{mark_rearranges}
use Rattle.h5_builder_spec.specs.Changes.{mark_started}
use Rattle.h5_builder_state.specs.View.{world}
use Rattle.h5_builder_state.proofs.StackLaws.{seen_world}
use Rattle.h5_builder_state.proofs.StepLaws.{sound_rearranged}
use Rattle.h5_builder_state.proofs.steps.mark_started.Goals as goal

pub returns : goal.returns
unfolding world mark_started
returns g c =
    let choices = g.S.TreeSink.choices in
    let w = world g.S.TreeSink.sees g.S.TreeSink.node c.args.sink.now c.args.state.now in
    let marked = λ (n : ℕ). record w { forest = mark (choices.marks_after_started w.forest n) w.forest } in
    record {
      world = ap (λ (s : Seen). seen_world w s w.stack) c.mark_script_already_started.ensures ∙ ap marked c.current_node-script.ensures.current;
      quiet = ap (λ (s : Seen). s.errors) c.mark_script_already_started.ensures;
      sound = sound_rearranged g.S.TreeSink c.args.sink.now _ c.args.state.now c.requires.sound
          (subst (λ (s : Seen). Rearranges w.forest s.forest) (sym c.mark_script_already_started.ensures) (mark_rearranges w.forest _ c.requires.sound.sound.stands.is_forest));
    }
