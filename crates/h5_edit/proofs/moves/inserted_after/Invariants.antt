use Rattle.std.proofs.Common.{◌≡◌, ◌++◌}
use Rattle.std.specs.Vec.Iter.{into_iter_items}
use Rattle.h5_edit.specs.Editing.{inserted_after}
use Rattle.h5_edit.specs.Moving.{passed}
use Rattle.h5_edit.proofs.moves.inserted_after.Given as goal

-- what remains to be inserted comes into the remaining children
abbrev pub invariant-loop-child : goal.invariant-loop-child
invariant-loop-child l =
    passed l.all.items ++ inserted_after l.node.index (passed l.more.items) (passed (into_iter_items l.child-iterator))
    ≡ inserted_after l.node.index (passed l.fn.more.items) (passed l.fn.children.items)
