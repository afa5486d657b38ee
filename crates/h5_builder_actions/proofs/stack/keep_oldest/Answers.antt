use Rattle.std.proofs.Common.{refl, subst, sym, ◌≡◌}
use Rattle.h5_builder_spec.specs.Sound.{AllStand, Sound}
use Rattle.h5_builder_spec.proofs.changes.RemovalLaws.{all_older}
use Rattle.h5_builder_state.specs.View.{stack_under, with_stack, world}
use Rattle.h5_builder_actions.proofs.OpenLaws.{stack_cut}
use Rattle.h5_builder_actions.proofs.stack.keep_oldest.Goals as goal

pub returns : goal.returns
unfolding world
returns g c =
    let node = g.S.TreeSink.node in
    let w = world g.S.TreeSink.sees node c.args.sink.now c.args.state.now in
    let cut = stack_cut node c.args.state.now c.args.count in
    let left = stack_under node c.args.state.now c.args.count in
    let same : world g.S.TreeSink.sees node c.args.sink.now c.truncate.new.state ≡ with_stack left w = c.truncate.ensures.world in
    record {
      world = same;
      quiet = refl;
      sound = record {
        sound = subst Sound (sym same) (all_older w.forest cut.newer left (subst (λ s. AllStand w.forest s w.formatting w.head w.form w.context) cut.cut c.requires.sound));
        kept = c.truncate.ensures.kept;
        stamped = c.truncate.ensures.stamped;
      };
    }
