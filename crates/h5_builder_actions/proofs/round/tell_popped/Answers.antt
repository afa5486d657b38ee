use Rattle.h5_interface.specs.SinkChoices.{Rearranges}
use Rattle.std.proofs.Common.{subst, sym}
use Rattle.h5_interface.specs.Seen.{Seen}
use Rattle.h5_interface.proofs.MakingLaws.{mark_rearranges}
use Rattle.h5_builder_state.specs.View.{world}
use Rattle.h5_builder_state.proofs.StepLaws.{sound_rearranged}
use Rattle.h5_builder_actions.proofs.round.tell_popped.Goals as goal

pub returns-clause-sound : goal.returns-clause-sound
unfolding world
returns-clause-sound g c =
    let seen = g.S.TreeSink.sees c.args.sink.now in
    let n = g.S.TreeSink.node c.open_at.result.now.handle in
    sound_rearranged g.S.TreeSink c.args.sink.now c.pop.new.self c.args.state.now c.requires.sound
    (subst (λ (s : Seen). Rearranges seen.forest s.forest) (sym c.pop.ensures) (mark_rearranges seen.forest (g.S.TreeSink.choices.marks_after_pop seen.forest n) c.requires.sound.sound.stands.is_forest))
