use Rattle.std.proofs.Common.{◌<◌, length, sym, subst, ◌∙◌, ap}
use Rattle.h5_builder_spec.specs.insertion.Foreign.{leave_foreign_content}
use Rattle.h5_builder_spec.specs.World.{World}
use Rattle.h5_builder_spec.proofs.changes.PopLaws.{pop_shorter}
use Rattle.h5_builder_state.specs.View.{world}
use Rattle.h5_builder_actions.proofs.LeaveLaws.{leave_none, leave_step, left_is_open}
use Rattle.h5_builder_actions.proofs.leaving_foreign.leave_foreign_content.Goals as goal

pub pop-requires : goal.pop-requires
pop-requires g c = record { sound = c.left.invariant.sound; some = left_is_open g.S.TreeSink.choices (world g.S.TreeSink.sees g.S.TreeSink.node c.left.sink c.left.state) (sym c.is_current_left.ensures ∙ c.left-test.true) }

pub left-smaller : goal.left-smaller
left-smaller g c =
    let w = world g.S.TreeSink.sees g.S.TreeSink.node c.left.sink c.left.state in
    let some : 0 < length w.stack = left_is_open _ w (sym c.is_current_left.ensures ∙ c.left-test.true) in
    subst (λ (v : World). length v.stack < length w.stack) (sym c.pop.ensures.world) (pop_shorter g.S.TreeSink.choices w some)

pub left-preserved : goal.left-preserved
left-preserved g c = record {
  sound = c.pop.ensures.sound;
  quiet = c.pop.ensures.quiet ∙ c.left.invariant.quiet;
  left = ap (leave_foreign_content g.S.TreeSink.choices) c.pop.ensures.world
      ∙ leave_step g.S.TreeSink.choices _ (sym c.is_current_left.ensures ∙ c.left-test.true)
      ∙ c.left.invariant.left;
}

pub returns : goal.returns
returns g c = record {
  world = sym (leave_none g.S.TreeSink.choices _ (sym c.is_current_left.ensures ∙ c.left-test.false)) ∙ c.left.invariant.left;
  quiet = c.left.invariant.quiet;
  sound = c.left.invariant.sound;
}
