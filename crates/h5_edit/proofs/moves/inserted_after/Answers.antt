use Rattle.std.proofs.Common.{◌≡◌, ◌∙◌, ◌++◌, ◌∷◌, [], subst, sym}
use Rattle.std.specs.Vec.Iter.{into_iter_items}
use Rattle.h5_edit.specs.Editing.{inserted_after}
use Rattle.h5_edit.specs.Moving.{passed}
use Rattle.h5_edit.proofs.MoveLaws.{after_node}
use Rattle.h5_edit.proofs.moves.inserted_after.Goals as goal

pub loop-child-preserved-in-Continue-branch-2 : goal.loop-child-preserved-in-Continue-branch-2
loop-child-preserved-in-Continue-branch-2 c =
    let n = c.args.node.index in
    let left = into_iter_items c.loop-child.child-iterator in
    let rest = into_iter_items c.next.new.self in
    let whole = inserted_after n (passed c.args.more.items) (passed c.args.children.items) in
    let pushed : c.push.new.self.items ≡ c.loop-child.all.items ++ c.in-Some.child ∷ [] = c.in_ok-push.ensures.items in
    let appended : c.append.new.self.items ≡ c.push.new.self.items ++ c.loop-child.more.items = c.in_ok-append.ensures.items in
    let none : c.append.new.other.items ≡ [] = c.in_ok-append.ensures.other_items in
    let cut : left ≡ c.in-Some.child ∷ rest = c.in-Some.ensures.steps.0 in
    subst (λ xs. passed xs ++ inserted_after n (passed c.append.new.other.items) (passed rest) ≡ whole) (sym appended)
    (subst (λ xs. passed (xs ++ c.loop-child.more.items) ++ inserted_after n (passed c.append.new.other.items) (passed rest) ≡ whole) (sym pushed)
    (subst (λ ms. passed ((c.loop-child.all.items ++ c.in-Some.child ∷ []) ++ c.loop-child.more.items) ++ inserted_after n (passed ms) (passed rest) ≡ whole) (sym none)
    (after_node n c.loop-child.all.items c.loop-child.more.items left rest c.in-Some.child whole (sym c.is_node-is_found.ensures ∙ c.if-is_found.true) cut c.loop-child.invariant)))
