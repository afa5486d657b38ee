use Rattle.std.proofs.Common.{ap, refl, subst, sym, ◌≡◌, ◌∙◌}
use Rattle.h5_builder_spec.specs.insertion.Foreign.{is_named_in_any_case, pop_until_named_in_any_case}
use Rattle.h5_builder_spec.specs.Sound.{Sound}
use Rattle.h5_builder_spec.specs.World.{names_of}
use Rattle.h5_builder_spec.proofs.changes.PopLaws.{all_cut}
use Rattle.h5_builder_state.specs.View.{with_stack, world}
use Rattle.h5_builder_state.proofs.WalkLaws.{cut_under}
use Rattle.h5_builder_actions.proofs.leaving_foreign.pop_until_named_in_any_case.Goals as goal

pub returns : goal.returns
unfolding pop_until_named_in_any_case world
returns g c =
    let w = world g.S.TreeSink.sees g.S.TreeSink.node c.args.sink.now c.args.state.now in
    let is = is_named_in_any_case c.args.local.now in
    let left = cut_under g.S.TreeSink.node c.args.state.now is (names_of w) w.stack c.args.place refl c.requires.place in
    let same : world g.S.TreeSink.sees g.S.TreeSink.node c.args.sink.now c.truncate.new.state ≡ pop_until_named_in_any_case c.args.local.now w = c.truncate.ensures.world ∙ ap (λ s. with_stack s w) left in
    record {
      world = same;
      quiet = refl;
      sound = record { sound = subst Sound (sym same) (all_cut _ is (names_of w) w.stack c.requires.sound.sound); kept = c.truncate.ensures.kept; stamped = c.truncate.ensures.stamped };
    }
