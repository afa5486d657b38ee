use Rattle.std.proofs.Common.{refl, subst}
use Rattle.h5_builder_spec.specs.Sound.{AllStand, Sound}
use Rattle.h5_builder_spec.proofs.changes.RemovalLaws.{all_older}
use Rattle.h5_builder_state.specs.View.{stack_under, world}
use Rattle.h5_builder_actions.proofs.HangLaws.{on_either}
use Rattle.h5_builder_actions.proofs.OpenLaws.{stack_cut}
use Rattle.h5_builder_actions.proofs.stack.replace.Goals as goal

pub returns : goal.returns
unfolding world
returns g c =
    let node = g.S.TreeSink.node in
    let w = world g.S.TreeSink.sees node c.args.sink.now c.args.state.now in
    let cut = stack_cut node c.args.state.now c.args.place in
    let left = stack_under node c.args.state.now c.args.place in
    record {
      world = c.replace_open.ensures.ok;
      quiet = refl;
      sound = record {
        sound = on_either c.replace_open.result Sound _ _ _ c.replace_open.ensures.ok c.replace_open.ensures.err c.requires.stands
            (all_older w.forest cut.newer left (subst (λ s. AllStand w.forest s w.formatting w.head w.form w.context) cut.cut c.requires.sound.sound));
        kept = c.replace_open.ensures.kept;
        stamped = c.replace_open.ensures.stamped;
      };
    }
