use Rattle.std.proofs.Common.{ap, arith, drop, length, map, refl, reverse, subst, suc, sym, take, ◌+◌, ◌-◌, ◌<◌, ◌∙◌, ◌∷◌, ◌≡◌}
use Rattle.h5_builder_spec.specs.World.{World}
use Rattle.h5_builder_spec.specs.formatting.InnerLoop.{walked}
use Rattle.h5_builder_state.specs.Steps.{world_of}
use Rattle.h5_builder_state.specs.View.{elements_of, open_node, stack_under, world}
use Rattle.h5_builder_actions.specs.FormattingPlaces.{AreNodes}
use Rattle.h5_builder_actions.proofs.OpenLaws.{same_under, under_more}
use Rattle.h5_builder_actions.proofs.RelistLaws.{walked_none}
use Rattle.h5_builder_spec.specs.stack.Order.{IsIn}
use Rattle.h5_builder_actions.proofs.EntryStampLaws.{restack_by}
use Rattle.h5_builder_actions.proofs.relisting.relist_between.Goals as goal

pub down-init : goal.down-init
down-init g c =
    let node = g.S.TreeSink.node in
    let none : c.args.block - c.args.block ≡ 0 = omega arith in
    let w = world_of g.S.TreeSink c.args.sink.now c.args.state.now in
    record {
      place = omega arith;
      used = omega arith;
      stack = refl;
      restack = λ ns m. m;
      listed = c.requires.listed;
      world = refl;
      left = ap (λ i. walked (3 - i) (take (c.args.block - c.args.first) (stack_under node c.args.state.now c.args.block)) (map node c.args.clones.now.items) w.formatting) none;
    }

pub relist_near-used-requires-clause-open : goal.relist_near-used-requires-clause-open
relist_near-used-requires-clause-open g c =
    subst (λ (u : World). AreNodes (g.S.TreeSink.sees c.args.sink.now).forest u.stack) (sym c.down.invariant.world) c.requires.open

pub relist_far-requires-clause-open : goal.relist_far-requires-clause-open
relist_far-requires-clause-open g c =
    subst (λ (u : World). AreNodes (g.S.TreeSink.sees c.args.sink.now).forest u.stack) (sym c.down.invariant.world) c.requires.open

pub down-preserved-then-block-place-le3 : goal.down-preserved-then-block-place-le3
unfolding world
down-preserved-then-block-place-le3 g c =
    let node = g.S.TreeSink.node in
    let place = c.down.place - 1 in
    let s = stack_under node c.args.state.now in
    let ys = drop c.down.used (map node c.args.clones.now.items) in
    let first = c.args.first in
    let v = world_of g.S.TreeSink c.args.sink.now c.down.state in
    let inside : place < length (reverse (map (open_node node) (elements_of c.args.state.now))) = omega (arith, c.down-test.true, c.down.invariant.place, c.requires.block) in
    let here : c.down.place ≡ place + 1 = omega (arith, c.down-test.true) in
    let more = under_more node c.args.state.now place inside in
    let step = c.relist_near-used.ensures.walked more.0 (s place) (same_under node c.down.state c.args.state.now (place + 1) c.down.invariant.stack ∙ more.1) (3 - (c.args.block - place)) (take (place - first) (s place)) in
    let count : 3 - (c.args.block - c.down.place) ≡ suc (3 - (c.args.block - place)) = omega (arith, c.down-test.true, c.down.invariant.place, c.if-block-place-le3.true) in
    let long : c.down.place - first ≡ suc (place - first) = omega (arith, c.down-test.true) in
    let front : take (c.down.place - first) (s c.down.place) ≡ more.0 ∷ take (place - first) (s place) = ap (λ i. take i (s c.down.place)) long ∙ ap (λ i. take (suc (place - first)) (s i)) here ∙ ap (take (suc (place - first))) more.1 in
    record {
      place = omega (arith, c.down.invariant.place);
      used = c.relist_near-used.ensures.used;
      stack = c.relist_near-used.ensures.stack ∙ c.down.invariant.stack;
      restack = λ ns m. restack_by node c.args.state.now.open_elems c.down.state.open_elems c.args.block ns c.down.state.active_formatting c.relist_near-used.new.state.active_formatting c.down.invariant.stack
          (c.relist_near-used.ensures.restack c.args.block ns (omega (arith, c.down-test.true, c.down.invariant.place))) (c.down.invariant.restack ns m);
      listed = c.relist_near-used.ensures.listed;
      world = c.relist_near-used.ensures.world ∙ ap (λ (u : World). record u { formatting = (world_of g.S.TreeSink c.args.sink.now c.relist_near-used.new.state).formatting }) c.down.invariant.world;
      left = sym step ∙ sym (ap (λ i. walked i (more.0 ∷ take (place - first) (s place)) ys v.formatting) count) ∙ sym (ap (λ z. walked (3 - (c.args.block - c.down.place)) z ys v.formatting) front) ∙ c.down.invariant.left;
    }

pub down-preserved : goal.down-preserved
unfolding world
down-preserved g c =
    let node = g.S.TreeSink.node in
    let place = c.down.place - 1 in
    let s = stack_under node c.args.state.now in
    let ys = drop c.down.used (map node c.args.clones.now.items) in
    let first = c.args.first in
    let v = world_of g.S.TreeSink c.args.sink.now c.down.state in
    let u = world_of g.S.TreeSink c.args.sink.now c.relist_far.new.state in
    let inside : place < length (reverse (map (open_node node) (elements_of c.args.state.now))) = omega (arith, c.down-test.true, c.down.invariant.place, c.requires.block) in
    let here : c.down.place ≡ place + 1 = omega (arith, c.down-test.true) in
    let more = under_more node c.args.state.now place inside in
    let rest = take (place - first) (s place) in
    let step = c.relist_far.ensures.walked more.0 (s place) (same_under node c.down.state c.args.state.now (place + 1) c.down.invariant.stack ∙ more.1) rest ys in
    let count : 3 - (c.args.block - c.down.place) ≡ 0 = omega (arith, c.down-test.true, c.down.invariant.place, c.if-block-place-le3.false) in
    let later : 3 - (c.args.block - place) ≡ 0 = omega (arith, c.down-test.true, c.down.invariant.place, c.if-block-place-le3.false) in
    let long : c.down.place - first ≡ suc (place - first) = omega (arith, c.down-test.true) in
    let front : take (c.down.place - first) (s c.down.place) ≡ more.0 ∷ rest = ap (λ i. take i (s c.down.place)) long ∙ ap (λ i. take (suc (place - first)) (s i)) here ∙ ap (take (suc (place - first))) more.1 in
    record {
      place = omega (arith, c.down.invariant.place);
      used = c.down.invariant.used;
      stack = c.relist_far.ensures.stack ∙ c.down.invariant.stack;
      restack = λ ns m. restack_by node c.args.state.now.open_elems c.down.state.open_elems c.args.block ns c.down.state.active_formatting c.relist_far.new.state.active_formatting c.down.invariant.stack
          (c.relist_far.ensures.restack c.args.block ns) (c.down.invariant.restack ns m);
      listed = c.relist_far.ensures.listed;
      world = c.relist_far.ensures.world ∙ ap (λ (x : World). record x { formatting = u.formatting }) c.down.invariant.world;
      left = ap (λ i. walked i rest ys u.formatting) later ∙ sym step ∙ sym (ap (λ i. walked i (more.0 ∷ rest) ys v.formatting) count) ∙ sym (ap (λ z. walked (3 - (c.args.block - c.down.place)) z ys v.formatting) front) ∙ c.down.invariant.left;
    }

pub returns-clause-world : goal.returns-clause-world
returns-clause-world g c =
    let node = g.S.TreeSink.node in
    let w = world_of g.S.TreeSink c.args.sink.now c.args.state.now in
    let v = world_of g.S.TreeSink c.args.sink.now c.down.state in
    let none : c.down.place - c.args.first ≡ 0 = omega (arith, c.down-test.false) in
    let k = 3 - (c.args.block - c.down.place) in
    let ys = drop c.down.used (map node c.args.clones.now.items) in
    c.down.invariant.world ∙ ap (λ l. record w { formatting = l })
    (sym (walked_none k ys v.formatting) ∙ sym (ap (λ i. walked k (take i (stack_under node c.args.state.now c.down.place)) ys v.formatting) none) ∙ c.down.invariant.left)

pub relist_near-used-requires-clause-unopened : goal.relist_near-used-requires-clause-unopened
relist_near-used-requires-clause-unopened g c = λ n i. subst (λ (u : World). ¬ (IsIn n u.stack)) (sym c.down.invariant.world) (c.requires.unopened n i)
