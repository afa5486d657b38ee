use Rattle.std.proofs.Common.{◌≡◌, drop}
use Rattle.h5_arena.specs.ArenaModel.{child_views, forest_seen}
use Rattle.h5_tree.specs.Elements.{is_bare, is_empty}
use Rattle.h5_tree.proofs.of_arena.ArenaTree.is_empty.Given as goal

abbrev pub invariant-loop-child : goal.invariant-loop-child
invariant-loop-child l = is_bare (forest_seen l.self) (child_views (drop l.child-index l.child-items)) ≡ is_empty (forest_seen l.self) l.fn.id.index
