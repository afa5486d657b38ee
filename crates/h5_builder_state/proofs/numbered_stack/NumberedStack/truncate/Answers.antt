use Rattle.std.proofs.Common.{ap, arith, length, sym}
use Rattle.std.proofs.lemmas.List.{take_all}
use Rattle.h5_builder_state.proofs.ItemLaws.{length-stack, linked_all}
use Rattle.h5_builder_state.proofs.NumberedStackLaws.{placed_kept, seen_kept}
use Rattle.h5_builder_state.proofs.numbered_stack.NumberedStack.truncate.Goals as goal

pub take_back-requires-clause-linked : goal.take_back-requires-clause-linked
take_back-requires-clause-linked g c = linked_all c.self.inside.items.items c.self.inside.table.items c.self.invariant

pub invariant_of-self : goal.invariant_of-self
invariant_of-self g c =
    placed_kept c.self.inside.items.items c.truncate.new.self.items c.self.inside.table.items c.take_back.new.table.items c.args.count
    (omega (arith, c.if-count-len.true, c.len.ensures, c.self.inside.items.ok.0)) c.truncate.ensures.items c.take_back.ensures.linked c.take_back.ensures.room c.self.invariant

pub returns-then-count-len : goal.returns-then-count-len
returns-then-count-len g c = seen_kept c.self.inside.items.items c.truncate.new.self.items c.args.self.now c.args.count c.self.view_is c.truncate.ensures.items

pub returns-else-count-len : goal.returns-else-count-len
returns-else-count-len g c =
    sym (take_all c.args.count c.args.self.now (omega (arith, c.if-count-len.false, c.len.ensures, c.self.inside.items.ok.0, length-stack c.self.inside.items.items, ap (λ z. length z) c.self.view_is)))
