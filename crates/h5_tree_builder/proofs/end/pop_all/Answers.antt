use Rattle.std.proofs.Common.{◌<◌, length, ap, subst, sym, ◌∙◌, arith, rules}
use Rattle.h5_builder_spec.specs.World.{World}
use Rattle.h5_builder_state.specs.View.{world}
use Rattle.h5_tree_builder.specs.Builder.{all_popped}
use Rattle.h5_builder_spec.proofs.changes.PopLaws.{pop_shorter}
use Rattle.h5_tree_builder.proofs.EndLaws.{pop_next}
use Rattle.h5_tree_builder.proofs.end.pop_all.Goals as goal

pub elements-smaller : goal.elements-smaller
elements-smaller g c =
    let k = g.S.TreeSink.choices in
    let w = world g.S.TreeSink.sees g.S.TreeSink.node c.elements.sink c.elements.state in
    let some : 0 < length w.stack = search rules in
    subst (λ (v : World). length v.stack < length w.stack) (sym c.pop.ensures.world) (pop_shorter k w some)

pub elements-preserved : goal.elements-preserved
elements-preserved g c =
    let k = g.S.TreeSink.choices in
    let w = world g.S.TreeSink.sees g.S.TreeSink.node c.elements.sink c.elements.state in
    let some : 0 < length w.stack = search rules in
    record {
      sound = c.pop.ensures.sound;
      still = λ e. let same = c.elements.invariant.still e in
          let here = ap (λ s. world g.S.TreeSink.sees g.S.TreeSink.node s c.elements.state) same.0 ∙ ap (world g.S.TreeSink.sees g.S.TreeSink.node c.args.sink.now) same.1 in
          absurd (omega (arith, some, ap (λ (v : World). length v.stack) here, ap length e));
      rest = ap (all_popped k) c.pop.ensures.world ∙ pop_next k w some ∙ c.elements.invariant.rest;
      quiet = c.pop.ensures.quiet ∙ c.elements.invariant.quiet;
    }
