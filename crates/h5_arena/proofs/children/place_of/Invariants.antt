use Rattle.std.proofs.Common.{◌<◌, ◌≤◌, length, take}
use Rattle.h5_interface.specs.Forest.{count, nodes}
use Rattle.h5_arena.specs.ArenaModel.{child_views}
use Rattle.h5_arena.proofs.children.place_of.Given as goal

-- the node is before this index
abbrev pub invariant-places : goal.invariant-places
invariant-places l = record {
  within : l.behind ≤ length l.fn.children;
  before : 0 < count l.fn.index (nodes (child_views (take l.behind l.fn.children)));
}

abbrev pub decreases-places : goal.decreases-places
decreases-places l = l.behind
