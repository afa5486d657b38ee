use Rattle.std.proofs.Common.{◌≡◌, ◌++◌, drop, take}
use Rattle.h5_arena.specs.ArenaModel.{child_views}
use Rattle.h5_arena.specs.Kin.{children_before}
use Rattle.h5_arena.proofs.kin.before.Given as goal

abbrev pub invariant-loop-at : goal.invariant-loop-at
invariant-loop-at l = child_views (take l.at l.children) ++ children_before l.id.index (child_views (drop l.at l.children)) ≡ children_before l.id.index (child_views l.children)
