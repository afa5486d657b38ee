use Rattle.std.proofs.Common.{ap, arith, map, reverse, sym, ◌+◌, ◌++◌, ◌∙◌, ◌≡◌, ◌||◌, ℕ}
use Rattle.std.specs.List.{list_any}
use Rattle.h5_tables.specs.TagSets.{is_special}
use Rattle.h5_builder_spec.specs.formatting.Adoption.{newer_than}
use Rattle.h5_builder_spec.specs.World.{name_in}
use Rattle.h5_builder_state.specs.View.{elements_of, open_node, stack_under, world}
use Rattle.h5_builder_actions.proofs.OpenLaws.{block_at, furthest_none, length_under, none_newer, one_left, stack_cut, stands_at, stands_below}
use Rattle.h5_builder_actions.proofs.find.find_block.Goals as goal

pub up-init : goal.up-init
unfolding world
up-init g c = record {
  count = c.open_count-count.ensures.count;
  above = omega (arith, c.open_count-count.ensures.count, c.requires.place);
  below = omega arith;
  none = λ n k.
      let node = g.S.TreeSink.node in
      let state = c.args.state.now in
      let at = stands_below node state n c.args.place (c.args.place + 1) (stands_at n c.args.place _ k) (omega arith) (omega (arith, c.requires.place)) in
      ap (list_any (λ (m : ℕ). is_special (name_in (g.S.TreeSink.sees c.args.sink.now).forest m))) (none_newer n c.args.place _ at (length_under node state (c.args.place + 1) (omega (arith, c.requires.place))));
}

pub returns-then-open_at-clause-block : goal.returns-then-open_at-clause-block
unfolding world
returns-then-open_at-clause-block g c = λ n k.
    let node = g.S.TreeSink.node in
    let state = c.args.state.now in
    let cut = stack_cut node state (c.up.above + 1) in
    block_at n c.args.place c.up.above (node c.open_at.result.now.handle) cut.newer (stack_under node state c.up.above) _ k
    (cut.cut ∙ ap (λ s. cut.newer ++ s) c.open_at.ensures.here) (sym c.open_at.ensures.count) c.up.invariant.below
    (sym c.open_at.ensures.special ∙ c.if-open_at.true) (c.up.invariant.none n k)

pub up-preserved : goal.up-preserved
unfolding world
up-preserved g c = record {
  count = c.up.invariant.count;
  above = omega (arith, c.up-test.true);
  below = omega (arith, c.up.invariant.below);
  none = λ n k.
      let node = g.S.TreeSink.node in
      let state = c.args.state.now in
      let special = λ (m : ℕ). is_special (name_in (g.S.TreeSink.sees c.args.sink.now).forest m) in
      let at = stands_below node state n c.args.place (c.up.above + 1) (stands_at n c.args.place _ k) (omega (arith, c.up.invariant.below)) (omega (arith, c.up-test.true, c.up.invariant.count)) in
      let one = one_left special n c.args.place _ _ _ c.open_at.ensures.here at (omega (arith, c.up.invariant.below, c.open_at.ensures.count)) in
      one.1 ∙ ap (λ b. b || list_any special (newer_than n (stack_under node state c.up.above))) (sym c.open_at.ensures.special ∙ c.if-open_at.false) ∙ c.up.invariant.none n k;
}

pub returns-clause-block : goal.returns-clause-block
unfolding world
returns-clause-block g c = λ n k.
    let node = g.S.TreeSink.node in
    let state = c.args.state.now in
    let special = λ (m : ℕ). is_special (name_in (g.S.TreeSink.sees c.args.sink.now).forest m) in
    let all : stack_under node state c.up.above ≡ reverse (map (open_node node) (elements_of state)) =
    ap (stack_under node state) (omega (arith, c.up.invariant.above, c.up-test.false)) ∙ c.open_count-count.ensures.stack in
    furthest_none special _ (ap (λ s. list_any special (newer_than n s)) (sym all) ∙ c.up.invariant.none n k)
