use Rattle.std.proofs.Common.{◌-◌, ap, sym, ◌∙◌}
use Rattle.h5_builder_spec.specs.World.{World}
use Rattle.h5_builder_state.specs.View.{world}
use Rattle.h5_builder_actions.specs.EntryPlaces.{entry_at, is_staying}
use Rattle.h5_builder_actions.proofs.StayLaws.{rest_found, rest_passed}
use Rattle.h5_builder_actions.proofs.reconstruct.count_staying.Goals as goal

pub returns-then-stays_at-clause-count : goal.returns-then-stays_at-clause-count
returns-then-stays_at-clause-count g c =
    let w = world g.S.TreeSink.sees g.S.TreeSink.node c.args.sink.now c.args.state.now in
    let asked = ap (λ (v : World). is_staying v.stack (entry_at (c.rewind.place - 1) v.formatting)) c.rewind.invariant.world in
    rest_found w.stack w.formatting c.rewind.place c.rewind.invariant.below c.rewind-test.true (sym (c.stays_at.ensures.stays ∙ asked) ∙ c.if-stays_at.true)

pub rewind-preserved : goal.rewind-preserved
rewind-preserved g c =
    let w = world g.S.TreeSink.sees g.S.TreeSink.node c.args.sink.now c.args.state.now in
    let asked = ap (λ (v : World). is_staying v.stack (entry_at (c.rewind.place - 1) v.formatting)) c.rewind.invariant.world in
    record {
      world = c.stays_at.ensures.world ∙ c.rewind.invariant.world;
      stack = c.stays_at.ensures.stack ∙ c.rewind.invariant.stack;
      sound = c.stays_at.ensures.sound;
      below = rest_passed w.stack w.formatting c.rewind.place c.rewind.invariant.below c.rewind-test.true (sym (c.stays_at.ensures.stays ∙ asked) ∙ c.if-stays_at.false);
    }
