use Rattle.std.proofs.Common.{◌≡◌, drop}
use Rattle.h5_arena.specs.ArenaModel.{child_views}
use Rattle.h5_arena.specs.Kin.{children_behind}
use Rattle.h5_arena.proofs.kin.behind.Given as goal

abbrev pub invariant-loop-at : goal.invariant-loop-at
invariant-loop-at l = children_behind l.id.index (child_views (drop l.at l.children)) ≡ children_behind l.id.index (child_views l.children)
