use Rattle.std.proofs.Common.{◌≡◌, take}
use Rattle.h5_arena.specs.ArenaModel.{child_views}
use Rattle.h5_edit.specs.Moving.{passed}
use Rattle.h5_edit.proofs.moves.copied.Given as goal

-- the children so far are copied
abbrev pub invariant-loop-child : goal.invariant-loop-child
invariant-loop-child l = passed l.copied.items ≡ child_views (take l.child-index l.children)
