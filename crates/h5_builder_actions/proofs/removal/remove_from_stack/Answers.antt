use Rattle.std.proofs.Common.{ap, cond, refl, subst, sym, ◌∙◌}
use Rattle.h5_interface.specs.Changes.{mark}
use Rattle.h5_interface.specs.Seen.{Seen}
use Rattle.h5_interface.specs.SinkChoices.{Rearranges}
use Rattle.h5_interface.proofs.MakingLaws.{mark_rearranges}
use Rattle.h5_builder_spec.specs.formatting.AdoptionAgency.{remove_from_stack}
use Rattle.h5_builder_spec.specs.World.{World}
use Rattle.h5_builder_spec.specs.formatting.Adoption.{without_node}
use Rattle.h5_builder_spec.proofs.entries.PairLaws.{is_in_true}
use Rattle.h5_builder_state.specs.View.{world}
use Rattle.h5_builder_state.proofs.StackLaws.{seen_world}
use Rattle.h5_builder_state.proofs.StepLaws.{sound_rearranged}
use Rattle.h5_builder_actions.proofs.removal.remove_from_stack.Goals as goal

pub pop-requires : goal.pop-requires
unfolding world
pop-requires g c = c.requires.sound.sound.stands.elements _ (is_in_true _ _ (sym c.take_out.ensures.found ∙ c.if-take_out.true))

pub returns-then-take_out : goal.returns-then-take_out
unfolding world remove_from_stack
returns-then-take_out g c =
    let choices = g.S.TreeSink.choices in
    let n = g.S.TreeSink.node c.args.handle.now in
    let state = c.take_out.new.state in
    let w = world g.S.TreeSink.sees g.S.TreeSink.node c.args.sink.now c.args.state.now in
    let v = world g.S.TreeSink.sees g.S.TreeSink.node c.args.sink.now state in
    let told = λ (u : World). record u { forest = mark (choices.marks_after_pop u.forest n) u.forest } in
    let is_open = sym c.if-take_out.true ∙ c.take_out.ensures.found in
    let less = record w { stack = without_node n w.stack } in
    let f = w.forest in
    record {
      world = ap (λ (s : Seen). seen_world v s v.stack) c.pop.ensures
          ∙ ap told (c.take_out.ensures.world ∙ ap (λ b. cond b less w) (sym is_open))
          ∙ ap (λ b. cond b (told less) w) is_open;
      quiet = ap (λ (s : Seen). s.errors) c.pop.ensures;
      sound = sound_rearranged g.S.TreeSink c.args.sink.now _ state c.take_out.ensures.sound
          (subst (λ (s : Seen). Rearranges f s.forest) (sym c.pop.ensures) (mark_rearranges f _ c.requires.sound.sound.stands.is_forest));
    }

pub returns-else-take_out : goal.returns-else-take_out
unfolding world remove_from_stack
returns-else-take_out g c =
    let choices = g.S.TreeSink.choices in
    let n = g.S.TreeSink.node c.args.handle.now in
    let w = world g.S.TreeSink.sees g.S.TreeSink.node c.args.sink.now c.args.state.now in
    let is_open = sym c.if-take_out.false ∙ c.take_out.ensures.found in
    let less = record w { stack = without_node n w.stack } in
    record {
      world = c.take_out.ensures.world
          ∙ ap (λ b. cond b less w) (sym is_open)
          ∙ ap (λ b. cond b (record less { forest = mark (choices.marks_after_pop w.forest n) w.forest }) w) is_open;
      quiet = refl;
      sound = c.take_out.ensures.sound;
    }
