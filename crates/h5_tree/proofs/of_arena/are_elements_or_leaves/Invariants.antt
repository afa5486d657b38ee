use Rattle.std.proofs.Common.{drop}
use Rattle.h5_arena.specs.ArenaModel.{child_views, forest_seen}
use Rattle.h5_tree.specs.Elements.{AreElementsOrLeaves}
use Rattle.h5_tree.proofs.of_arena.are_elements_or_leaves.Given as goal

abbrev pub invariant-loop-child : goal.invariant-loop-child
invariant-loop-child l = AreElementsOrLeaves (forest_seen l.arena) (child_views (drop l.child-index l.children)) → AreElementsOrLeaves (forest_seen l.arena) (child_views l.children)
