use Rattle.std.proofs.Common.{◌≡◌, All, length}
use Rattle.std.specs.Vec.Iter.{into_iter_items}
use Rattle.h5_arena.specs.ArenaModel.{seen_of}
use Rattle.h5_edit.specs.Editing.{moved_before}
use Rattle.h5_edit.specs.Moving.{IsWithin, KeepsRest, passed}
use Rattle.h5_edit.proofs.moves.move_before.Given as goal

-- moving the remaining children leads to the same as moving all at first
abbrev pub invariant-loop-child : goal.invariant-loop-child
invariant-loop-child l = record {
  seen : moved_before l.sibling.index (passed (into_iter_items l.child-iterator)) (seen_of l.arena) ≡ moved_before l.sibling.index (passed l.fn.children.items) (seen_of l.fn.arena);
  within : All (IsWithin (length l.fn.arena.nodes)) (passed (into_iter_items l.child-iterator));
  rest : KeepsRest l.fn.arena l.arena;
}
