use Rattle.std.proofs.Common.{◌≡◌, ◌<◌, List, ℕ, length}
use Rattle.h5_interface.specs.Ancestors.{AtOrAbove}
use Rattle.h5_interface.specs.Forest.{parent_of}
use Rattle.h5_arena.specs.ArenaModel.{forest_in}
use Rattle.h5_arena.proofs.ClimbLaws.{AreUnder}
use Rattle.h5_arena.proofs.standing.is_at_or_above.Given as goal

-- this node is at or above the start of the walk up; if `above` is at or above the start, it is at or above this node; as many different
-- nodes as steps are below this node
abbrev pub invariant-loop-step : goal.invariant-loop-step
invariant-loop-step l = record {
  within : l.at.index < length l.nodes;
  from : AtOrAbove (parent_of (forest_in l.nodes)) l.at.index l.fn.id.index;
  still : AtOrAbove (parent_of (forest_in l.nodes)) l.above.index l.fn.id.index → AtOrAbove (parent_of (forest_in l.nodes)) l.above.index l.at.index;
  under : (passed : List ℕ) × (length passed ≡ l._step) × AreUnder (forest_in l.nodes) l.at.index passed;
}
