use Rattle.std.proofs.Common.{◌≡◌, ◌++◌, All, drop, map}
use Rattle.h5_interface.specs.Forest.{nodes}
use Rattle.h5_arena.specs.ArenaModel.{IsHeld, place}
use Rattle.h5_arena.specs.Lent.{lent_views}
use Rattle.h5_arena.proofs.kin.nodes_among.Given as goal

abbrev pub invariant-loop-child : goal.invariant-loop-child
invariant-loop-child l =
    (map place l.found.items ++ nodes (lent_views (drop l.child-index l.children)) ≡ nodes (lent_views l.children))
    × All (IsHeld l.arena) l.found.items
