use Rattle.std.proofs.Common.{◌≡◌, ◌+◌, ◌∷◌, [], arith, inl, length, refl, sym}
use Rattle.std.specs.Prelude.{None, Some}
use Rattle.std.proofs.lemmas.List.{length-map}
use Rattle.h5_interface.specs.Forest.{parent_of}
use Rattle.h5_arena.specs.ArenaModel.{forest_in, node_view}
use Rattle.h5_arena.proofs.ClimbLaws.{above_none, above_parent, few_under, none_under, one_more_under, parent_above, parent_at}
use Rattle.h5_arena.proofs.NodeWrites.{parent_within, within_is_node}
use Rattle.h5_arena.proofs.standing.is_at_or_above.Goals as goal

pub loop-step-init : goal.loop-step-init
loop-step-init c = record { within = c.requires.held; from = inl refl; still = λ h. h; under = ([], refl, none_under (forest_in c.args.nodes.now) c.args.id.index) }

pub returns-in-None-clause-apart : goal.returns-in-None-clause-apart
returns-in-None-clause-apart c = λ _ h.
    above_none (parent_of (forest_in c.args.nodes.now)) c.args.above.index c.loop-step.at.index (λ w. c.if-at-above.false (sym w))
    (parent_at c.args.nodes.now c.loop-step.at.index c.index-nodes-at.result c.node.result None c.loop-step.invariant.within c.index-nodes-at.is c.node.ensures c.in-None.is) (c.loop-step.invariant.still h)

pub loop-step-preserved : goal.loop-step-preserved
loop-step-preserved c =
    let e = parent_at c.args.nodes.now c.loop-step.at.index c.index-nodes-at.result c.node.result (Some c.in-Some.parent) c.loop-step.invariant.within c.index-nodes-at.is c.node.ensures c.in-Some.is in
    let more : length (c.loop-step.at.index ∷ c.loop-step.invariant.under.0) ≡ c.loop-step._step + 1 = omega (arith, c.loop-step.invariant.under.1) in
    record {
      within = parent_within c.args.nodes.now c.in-Some.parent.index c.loop-step.at.index c.requires.forest e;
      from = parent_above (parent_of (forest_in c.args.nodes.now)) c.in-Some.parent.index c.loop-step.at.index c.args.id.index e c.loop-step.invariant.from;
      still = λ h. above_parent (parent_of (forest_in c.args.nodes.now)) c.args.above.index c.loop-step.at.index c.in-Some.parent.index (λ w. c.if-at-above.false (sym w)) e (c.loop-step.invariant.still h);
      under = (c.loop-step.at.index ∷ c.loop-step.invariant.under.0, more, one_more_under (forest_in c.args.nodes.now) c.loop-step.at.index c.in-Some.parent.index c.loop-step.invariant.under.0 c.requires.forest c.loop-step.invariant.under.2 e);
    }

pub unreachable-requires : goal.unreachable-requires
unreachable-requires c =
    let few = few_under (forest_in c.args.nodes.now) c.loop-step.at.index c.loop-step.invariant.under.0 c.requires.forest (within_is_node c.args.nodes.now c.loop-step.at.index c.loop-step.invariant.within) c.loop-step.invariant.under.2 in
    omega (arith, few, c.loop-step.invariant.under.1, length-map c.args.nodes.now node_view)
