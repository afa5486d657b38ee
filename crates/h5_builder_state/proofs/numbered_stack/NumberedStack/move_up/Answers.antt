use Rattle.std.proofs.Common.{◌<◌, ap, arith, length, ◌∙◌}
use Rattle.h5_builder_state.proofs.ItemLaws.{length-stack}
use Rattle.h5_builder_state.proofs.NumberedStackLaws.{moved_linked, moved_reached, seen_moved}
use Rattle.h5_builder_state.proofs.numbered_stack.NumberedStack.move_up.Goals as goal

pub put_back-requires-clause-reached : goal.put_back-requires-clause-reached
put_back-requires-clause-reached g c =
    let items = c.self.inside.items.items in
    let within : c.args.to < length items = omega (arith, c.requires.inside, length-stack items, ap (λ z. length z) c.self.view_is) in
    moved_reached items c.move_up.new.items.items c.args.from c.args.to c.requires.order within c.move_up.ensures.moved c.self.inside.table.items c.take_back.new.table.items c.take_back.ensures.room c.self.invariant

pub put_back-requires-clause-linked : goal.put_back-requires-clause-linked
put_back-requires-clause-linked g c =
    let items = c.self.inside.items.items in
    let within : c.args.to < length items = omega (arith, c.requires.inside, length-stack items, ap (λ z. length z) c.self.view_is) in
    moved_linked items c.move_up.new.items.items c.args.from c.args.to c.requires.order within c.move_up.ensures.moved c.take_back.new.table.items c.take_back.ensures.linked

pub returns : goal.returns
returns g c = λ one e.
    let items = c.self.inside.items.items in
    let within : c.args.to < length items = omega (arith, c.requires.inside, length-stack items, ap (λ z. length z) c.self.view_is) in
    c.put_back.ensures.same ∙ seen_moved items c.move_up.new.items.items c.args.from c.args.to c.requires.order within c.move_up.ensures.moved c.args.self.now one c.self.view_is e
