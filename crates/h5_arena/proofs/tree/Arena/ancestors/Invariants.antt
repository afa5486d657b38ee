use Rattle.std.proofs.Common.{◌≡◌, ◌++◌, ◌-◌, All, map}
use Rattle.h5_arena.specs.ArenaModel.{IsHeld, forest_seen, place}
use Rattle.h5_arena.specs.Kin.{ancestors, ancestors_within}
use Rattle.h5_arena.proofs.tree.Arena.ancestors.Given as goal

abbrev pub invariant-loop-step : goal.invariant-loop-step
invariant-loop-step l =
    (map place l.found.items ++ ancestors_within (l._step-end - l._step) (forest_seen l.self) l.at.index ≡ ancestors (forest_seen l.self) l.fn.id.index)
    × All (IsHeld l.self) l.found.items × IsHeld l.self l.at
