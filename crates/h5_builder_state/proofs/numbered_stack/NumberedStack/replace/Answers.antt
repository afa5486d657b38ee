use Rattle.std.proofs.Common.{refl}
use Rattle.h5_builder_state.proofs.NumberedStackLaws.{placed_set, seen_replaced}
use Rattle.h5_builder_state.proofs.numbered_stack.NumberedStack.replace.Goals as goal

pub invariant_of-self-2 : goal.invariant_of-self-2
invariant_of-self-2 g c = placed_set c.renumber.new.items.items c.renumber.new.table.items c.args.place c.index_mut.result.now _ c.index_mut.ensures.value refl refl c.renumber.ensures.placed

pub returns-clause-ok : goal.returns-clause-ok
returns-clause-ok g c =
    seen_replaced c.self.inside.items.items c.renumber.new.items.items c.args.self.now c.args.place c.args.number c.index_mut.result.now _ c.self.view_is c.requires c.index_mut.ensures.value refl
    c.renumber.ensures.numbers c.renumber.ensures.others
