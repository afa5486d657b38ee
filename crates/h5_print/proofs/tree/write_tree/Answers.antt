use Rattle.std.proofs.Common.{[], ap, refl, subst, sym, ◌++◌, ◌∙◌, ◌∷◌, arith, string_bytes}
use Rattle.std.proofs.lemmas.List.{nil_from_length}
use Rattle.h5_print.specs.Frames.{GoesOn}
use Rattle.h5_print.specs.declared.tree.Frame.{Frame}
use Rattle.h5_print.proofs.FrameLaws.{held_front, held_last, tree_done}
use Rattle.h5_print.proofs.WritingLaws.{sent_last, sent_more, sent_part}
use Rattle.h5_print.proofs.tree.write_tree.Goals as goal

pub returns-in_default : goal.returns-in_default
returns-in_default g c =
    let contents = g.W.Write.contents in
    let first : Frame = record { node = c.get_document.result; printed = 0 } in
    sent_last c.args.arena.now c.push.new.self.items c.frames.stack.items (contents c.args.writer.now) (contents c.frames.writer) (contents c.write_part.new.writer)
    (string_bytes c.frames.part) (string_bytes c.write_part.new.part) _ c.write_part.result (omega (arith, c.write_part.new.part.bytes.ok.0))
    (λ text. tree_done c.args.arena.now c.push.new.self.items c.frames.stack.items first text
    (c.in_ok-push.ensures.items ∙ ap (λ l. l ++ first ∷ []) c.new-stack.ensures.items) c.get_document.ensures.document refl
    (nil_from_length c.frames.stack.items (omega (arith, c.frames.stack.ok.0, c.in_default.ensures.cases.0))))
    c.frames.invariant.sent c.write_part.ensures.passes c.write_part.ensures.rest

pub print_next-requires-clause-held : goal.print_next-requires-clause-held
print_next-requires-clause-held g c = held_last c.args.arena.now c.frames.stack.items c.pop.new.self.items c.in-Some.frame c.in-Some.ensures.items c.frames.invariant.held

pub print_next-requires-clause-stack : goal.print_next-requires-clause-stack
print_next-requires-clause-stack g c = held_front c.args.arena.now c.frames.stack.items c.pop.new.self.items c.in-Some.frame c.in-Some.ensures.items c.frames.invariant.held

pub frames-preserved : goal.frames-preserved
frames-preserved g c =
    let contents = g.W.Write.contents in
    let a = c.args.arena.now in
    let first = c.push.new.self.items in
    let printed = subst (λ frames. GoesOn a frames (string_bytes c.frames.part) c.print_next.new.stack.items (string_bytes c.print_next.new.out)) (sym c.in-Some.ensures.items) c.in_ok-print_next.ensures.goes_on in
    record {
      held = c.in_ok-print_next.ensures.held;
      sent = sent_part a first c.print_next.new.stack.items (contents c.args.writer.now) (contents c.frames.writer) (contents c.write_part-in-frames.new.writer)
          (string_bytes c.print_next.new.out) (string_bytes c.write_part-in-frames.new.part)
          (sent_more a first c.frames.stack.items c.print_next.new.stack.items (contents c.args.writer.now) (contents c.frames.writer) (string_bytes c.frames.part) (string_bytes c.print_next.new.out) c.frames.invariant.sent printed)
          c.in_ok-write_part.ensures.passes;
    }
