use Rattle.std.proofs.Common.{◌+◌}
use Rattle.h5_arena.specs.ArenaModel.{forest_seen}
use Rattle.h5_arena.specs.OpenNodes.{calls_left}
use Rattle.h5_arena.proofs.WalkLaws.{IsUnderWay, weight_left, weight_waiting}
use Rattle.h5_arena.proofs.walk.walk_open.Given as goal

abbrev pub invariant-loop-child : goal.invariant-loop-child
invariant-loop-child g l =
    IsUnderWay g.S.Serializer.answer g.S.Serializer.after g.S.Serializer.writes g.S.Serializer.breaks (forest_seen l.arena) (calls_left (forest_seen l.arena) l.first)
    (g.S.Serializer.meaning l.fn.serializer) (g.S.Serializer.contents l.fn.serializer) l.current l.around.items (g.S.Serializer.meaning l.serializer) (g.S.Serializer.contents l.serializer)

abbrev pub decreases-loop-child : goal.decreases-loop-child
decreases-loop-child g l = weight_left (forest_seen l.arena) l.current + weight_waiting (forest_seen l.arena) l.around.items
