use Rattle.std.proofs.Common.{ap, refl, subst, sym, ◌≡◌, ◌∙◌}
use Rattle.h5_builder_spec.specs.Changes.{pop_until_current}
use Rattle.h5_builder_spec.specs.Sound.{Sound}
use Rattle.h5_builder_spec.specs.World.{names_of}
use Rattle.h5_builder_spec.proofs.changes.PopLaws.{all_cut_above}
use Rattle.h5_builder_state.specs.View.{with_stack, world}
use Rattle.h5_builder_state.proofs.WalkLaws.{above_under}
use Rattle.h5_builder_actions.proofs.tables.pop_until_current.Goals as goal

pub returns : goal.returns
unfolding pop_until_current world
returns g c =
    let w = world g.S.TreeSink.sees g.S.TreeSink.node c.args.sink.now c.args.state.now in
    let is = g.Is.NameTest.holds c.args.is.now in
    let left = above_under g.S.TreeSink.node c.args.state.now is (names_of w) w.stack c.count_down_to-count.result refl c.count_down_to-count.ensures in
    let same : world g.S.TreeSink.sees g.S.TreeSink.node c.args.sink.now c.truncate.new.state ≡ pop_until_current is w = c.truncate.ensures.world ∙ ap (λ s. with_stack s w) left in
    record {
      world = same;
      quiet = refl;
      sound = record { sound = subst Sound (sym same) (all_cut_above _ is (names_of w) w.stack c.requires.sound); kept = c.truncate.ensures.kept; stamped = c.truncate.ensures.stamped };
    }
