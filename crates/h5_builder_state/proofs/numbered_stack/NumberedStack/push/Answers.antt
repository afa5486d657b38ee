use Rattle.std.proofs.Common.{ap, arith, length, subst, sym, ◌∙◌}
use Rattle.h5_builder_state.specs.Items.{ArePlaced}
use Rattle.h5_builder_state.proofs.ItemLaws.{length-stack}
use Rattle.h5_builder_state.proofs.NumberedStackLaws.{one_more, placed_table, push_linked, push_reached, seen_pushed}
use Rattle.h5_builder_state.proofs.numbered_stack.NumberedStack.push.Goals as goal

pub invariant_of-self : goal.invariant_of-self
invariant_of-self g c = placed_table c.self.inside.items.items c.self.inside.table.items c.reach.new.table.items c.reach.ensures.same c.reach.ensures.room c.self.invariant

pub invariant_of-self-in_err-push : goal.invariant_of-self-in_err-push
invariant_of-self-in_err-push g c =
    subst (λ xs. ArePlaced xs c.reach.new.table.items) (sym c.in_err-push.ensures.items)
    (placed_table c.self.inside.items.items c.self.inside.table.items c.reach.new.table.items c.reach.ensures.same c.reach.ensures.room c.self.invariant)

pub put_back-requires-clause-place : goal.put_back-requires-clause-place
put_back-requires-clause-place g c = omega (arith, one_more c.push.new.self.items c.self.inside.items.items _ c.in_ok-push.ensures.items, c.in_ok-place.ensures.place, length-stack c.self.inside.items.items, ap (λ z. length z) c.self.view_is)

pub put_back-requires-clause-small : goal.put_back-requires-clause-small
put_back-requires-clause-small g c =
    omega (arith, one_more c.push.new.self.items c.self.inside.items.items _ c.in_ok-push.ensures.items, c.in_ok-place.ensures.place, length-stack c.self.inside.items.items, ap (λ z. length z) c.self.view_is, c.in_ok-place.ensures.few)

pub put_back-requires-clause-reached : goal.put_back-requires-clause-reached
put_back-requires-clause-reached g c =
    push_reached c.self.inside.items.items c.push.new.self.items _ c.self.inside.table.items c.reach.new.table.items c.in_ok-push.ensures.items c.reach.ensures.room c.in_ok-reach.ensures.reached c.self.invariant

pub put_back-requires-clause-linked : goal.put_back-requires-clause-linked
put_back-requires-clause-linked g c =
    push_linked c.self.inside.items.items c.push.new.self.items _ c.self.inside.table.items c.reach.new.table.items c.in_ok-place.field-0 (omega (arith, c.in_ok-place.ensures.place, length-stack c.self.inside.items.items, ap (λ z. length z) c.self.view_is))
    c.in_ok-push.ensures.items c.reach.ensures.same c.self.invariant

pub returns-clause-ok : goal.returns-clause-ok
returns-clause-ok g c = c.put_back.ensures.same ∙ seen_pushed c.self.inside.items.items c.push.new.self.items c.args.self.now _ c.self.view_is c.in_ok-push.ensures.items
