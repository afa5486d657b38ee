use Rattle.std.proofs.Common.{arith, ◌∙◌}
use Rattle.h5_builder_state.proofs.ItemLaws.{length-numbers_of, linked_all}
use Rattle.h5_builder_state.proofs.NumberedStackLaws.{inside, remove_length, remove_linked, remove_reached, seen_removed, seen_value}
use Rattle.h5_builder_state.proofs.numbered_stack.NumberedStack.remove.Goals as goal

pub take_back-requires-clause-place : goal.take_back-requires-clause-place
take_back-requires-clause-place g c = omega (arith, inside c.self.inside.items.items c.args.self.now c.args.place c.self.view_is c.requires)

pub take_back-requires-clause-linked : goal.take_back-requires-clause-linked
take_back-requires-clause-linked g c = linked_all c.self.inside.items.items c.self.inside.table.items c.self.invariant

pub remove-item-requires : goal.remove-item-requires
remove-item-requires g c = omega (arith, inside c.self.inside.items.items c.args.self.now c.args.place c.self.view_is c.requires, c.self.inside.items.ok.0)

pub put_back-requires-clause-place : goal.put_back-requires-clause-place
put_back-requires-clause-place g c =
    let within = inside c.self.inside.items.items c.args.self.now c.args.place c.self.view_is c.requires in
    omega (arith, within, remove_length c.self.inside.items.items c.remove-item.new.self.items c.args.place within c.remove-item.ensures.items)

pub put_back-requires-clause-small : goal.put_back-requires-clause-small
put_back-requires-clause-small g c =
    let within = inside c.self.inside.items.items c.args.self.now c.args.place c.self.view_is c.requires in
    omega (arith, remove_length c.self.inside.items.items c.remove-item.new.self.items c.args.place within c.remove-item.ensures.items, c.self.invariant.small, length-numbers_of c.self.inside.items.items)

pub put_back-requires-clause-reached : goal.put_back-requires-clause-reached
put_back-requires-clause-reached g c =
    remove_reached c.self.inside.items.items c.remove-item.new.self.items c.self.inside.table.items c.take_back.new.table.items c.args.place c.remove-item.ensures.items c.take_back.ensures.room c.self.invariant

pub put_back-requires-clause-linked : goal.put_back-requires-clause-linked
put_back-requires-clause-linked g c =
    let within = inside c.self.inside.items.items c.args.self.now c.args.place c.self.view_is c.requires in
    remove_linked c.self.inside.items.items c.remove-item.new.self.items c.take_back.new.table.items c.args.place (omega (arith, within)) c.remove-item.ensures.items c.take_back.ensures.linked

pub returns-clause-value : goal.returns-clause-value
returns-clause-value g c = seen_value c.self.inside.items.items c.args.self.now c.args.place c.remove-item.result c.self.view_is c.requires c.remove-item.ensures.value

pub returns-clause-rest : goal.returns-clause-rest
returns-clause-rest g c =
    c.put_back.ensures.same ∙ seen_removed c.self.inside.items.items c.remove-item.new.self.items c.args.self.now c.args.place c.self.view_is c.remove-item.ensures.items
