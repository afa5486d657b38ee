use Rattle.std.proofs.Common.{refl}
use Rattle.h5_builder_state.proofs.NumberedStackLaws.{placed_set, seen_set}
use Rattle.h5_builder_state.proofs.numbered_stack.NumberedStack.set.Goals as goal

pub invariant_of-self : goal.invariant_of-self
invariant_of-self g c = placed_set c.self.inside.items.items c.self.inside.table.items c.args.place c.index_mut.result.now _ c.index_mut.ensures.value refl refl c.self.invariant

pub returns : goal.returns
returns g c = seen_set c.self.inside.items.items c.args.self.now c.args.place c.index_mut.result.now _ c.self.view_is c.requires c.index_mut.ensures.value refl
