use Rattle.std.proofs.Common.{◌≡◌, drop}
use Rattle.h5_arena.specs.ArenaModel.{child_views, forest_seen}
use Rattle.h5_tree_block.specs.Columns.{ids_among}
use Rattle.h5_tree_block.proofs.of_arena.ids_among.Given as goal

-- the remaining children have the same identifiers as all
abbrev pub invariant-loop-child : goal.invariant-loop-child
invariant-loop-child l = ids_among (forest_seen l.arena) (child_views (drop l.child-index l.children)) ≡ ids_among (forest_seen l.arena) (child_views l.children)
