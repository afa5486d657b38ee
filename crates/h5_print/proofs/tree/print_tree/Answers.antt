use Rattle.std.proofs.Common.{◌∷◌, ◌++◌, arith, [], ap, ◌∙◌, string_bytes, refl}
use Rattle.std.proofs.lemmas.List.{nil_from_length}
use Rattle.h5_print.specs.declared.tree.Frame.{Frame}
use Rattle.h5_print.proofs.FrameLaws.{held_front, held_last, tree_done}
use Rattle.h5_print.proofs.tree.print_tree.Goals as goal

pub returns-in_default : goal.returns-in_default
returns-in_default c =
    let first : Frame = record { node = c.get_document.result; printed = 0 } in
    tree_done c.args.arena.now c.push.new.self.items c.frames.stack.items first (string_bytes c.frames.out)
    (c.in_ok-push.ensures.items ∙ ap (λ l. l ++ first ∷ []) c.new-stack.ensures.items) c.get_document.ensures.document refl
    (nil_from_length c.frames.stack.items (omega (arith, c.frames.stack.ok.0, c.in_default.ensures.cases.0))) c.frames.invariant.goes_on

pub print_next-requires-clause-held : goal.print_next-requires-clause-held
print_next-requires-clause-held c = held_last c.args.arena.now c.frames.stack.items c.pop.new.self.items c.in-Some.frame c.in-Some.ensures.items c.frames.invariant.held

pub print_next-requires-clause-stack : goal.print_next-requires-clause-stack
print_next-requires-clause-stack c = held_front c.args.arena.now c.frames.stack.items c.pop.new.self.items c.in-Some.frame c.in-Some.ensures.items c.frames.invariant.held
