use Rattle.std.proofs.Common.{◌≡◌, ◌++◌, drop, map}
use Rattle.h5_arena.specs.ArenaModel.{child_views, forest_seen, place}
use Rattle.h5_tree.specs.Elements.{elements_among}
use Rattle.h5_tree.proofs.of_arena.elements_among.Given as goal

abbrev pub invariant-loop-child : goal.invariant-loop-child
invariant-loop-child l =
    map place l.found.items ++ elements_among (forest_seen l.arena) (child_views (drop l.child-index l.children)) ≡ elements_among (forest_seen l.arena) (child_views l.children)
