use Rattle.std.proofs.Common.{◌≡◌, ◌∙◌, ◌∷◌, ap, length, subst}
use Rattle.std.proofs.lemmas.List.Elements.{All-rest}
use Rattle.std.specs.Vec.Iter.{into_iter_items}
use Rattle.h5_interface.specs.Seen.{child_of}
use Rattle.h5_arena.specs.ArenaModel.{place, seen_of}
use Rattle.h5_edit.specs.Editing.{moved_into}
use Rattle.h5_edit.specs.Moving.{IsWithin, passed}
use Rattle.h5_edit.proofs.KeepLaws.{keeps_both}
use Rattle.h5_edit.proofs.moves.move_into.Goals as goal

pub loop-child-preserved : goal.loop-child-preserved
loop-child-preserved c =
    let to = c.args.parent.index in
    let left = into_iter_items c.loop-child.child-iterator in
    let rest = into_iter_items c.next.new.self in
    let cut : left ≡ c.in-Some.child ∷ rest = c.in-Some.ensures.steps.0 in
    record {
      seen = ap (moved_into to (passed rest)) c.in_ok-put_last.ensures.ok
          ∙ subst (λ xs. moved_into to (passed xs) (seen_of c.loop-child.arena) ≡ moved_into to (passed c.args.children.items) (seen_of c.args.arena.now)) cut c.loop-child.invariant.seen;
      within = All-rest (IsWithin (length c.args.arena.now.nodes)) (child_of place c.in-Some.child) (passed rest) (passed left) (ap passed cut) c.loop-child.invariant.within;
      rest = keeps_both c.args.arena.now c.loop-child.arena c.put_last.new.arena c.loop-child.invariant.rest c.put_last.ensures.rest;
    }
