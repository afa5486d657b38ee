use Rattle.std.proofs.Common.{ap, subst, sym, ◌∙◌}
use Rattle.h5_builder_spec.specs.Changes.{with_known}
use Rattle.h5_builder_spec.specs.Sound.{AllStand}
use Rattle.h5_builder_state.specs.View.{with_stack, world}
use Rattle.h5_builder_actions.proofs.head.push_head.Goals as goal

pub push_open-requires-clause-stands : goal.push_open-requires-clause-stands
unfolding world
push_open-requires-clause-stands g c =
    let w = world g.S.TreeSink.sees g.S.TreeSink.node c.args.sink.now c.args.state.now in
    subst (λ o. AllStand w.forest (with_known o w.stack) w.formatting w.head w.form w.context) (sym c.in-Some.ensures) c.requires.ready

pub returns-in_ok-push_open : goal.returns-in_ok-push_open
unfolding world
returns-in_ok-push_open g c =
    let w = world g.S.TreeSink.sees g.S.TreeSink.node c.args.sink.now c.args.state.now in
    record {
      world = c.in_ok-push_open.ensures.world ∙ ap (λ o. with_stack (with_known o w.stack) w) c.in-Some.ensures;
      quiet = c.push_open.ensures.quiet;
      sound = c.push_open.ensures.sound;
    }
