use Rattle.std.proofs.Common.{arith, length, subst, ◌≡◌, ◌∙◌}
use Rattle.h5_builder_state.specs.Items.{AreLinked}
use Rattle.h5_builder_state.proofs.ItemLaws.{placed_all, reached_same, same_length}
use Rattle.h5_builder_state.proofs.places.put_back.Goals as goal

pub enter-requires-clause-place : goal.enter-requires-clause-place
enter-requires-clause-place g c = omega (arith, same_length c.args.items.now.items c.up.items.items c.up.invariant.same, c.len-count.ensures, c.args.items.now.ok.0)

pub enter-requires-clause-small : goal.enter-requires-clause-small
enter-requires-clause-small g c = omega (arith, same_length c.args.items.now.items c.up.items.items c.up.invariant.same, c.requires.small)

pub enter-requires-clause-reached : goal.enter-requires-clause-reached
enter-requires-clause-reached g c =
    reached_same c.args.items.now.items c.up.items.items c.args.table.now.items c.up.table.items c.up.invariant.same c.up.invariant.room c.requires.reached

pub up-preserved : goal.up-preserved
up-preserved g c = record {
  high = omega arith;
  same = c.enter.ensures.same ∙ c.up.invariant.same;
  linked = c.enter.ensures.linked;
  room = c.enter.ensures.room ∙ c.up.invariant.room;
}

pub returns-clause-placed : goal.returns-clause-placed
returns-clause-placed g c =
    let count = same_length c.args.items.now.items c.up.items.items c.up.invariant.same in
    let all : c.up.next ≡ length c.up.items.items = omega (arith, count, c.len-count.ensures, c.args.items.now.ok.0) in
    placed_all c.up.items.items c.up.table.items (subst (λ n. AreLinked c.up.items.items c.up.table.items n) all c.up.invariant.linked)
    (reached_same c.args.items.now.items c.up.items.items c.args.table.now.items c.up.table.items c.up.invariant.same c.up.invariant.room c.requires.reached) (omega (arith, count, c.requires.small))
