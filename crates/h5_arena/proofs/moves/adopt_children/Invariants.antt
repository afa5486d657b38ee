use Rattle.std.proofs.Common.{◌≡◌, ◌-◌, drop, take}
use Rattle.std.specs.Prelude.{Some}
use Rattle.h5_interface.specs.Changes.{has_child, set_parents}
use Rattle.h5_interface.specs.Forest.{children_of}
use Rattle.h5_arena.specs.ArenaModel.{forest_in}
use Rattle.h5_arena.proofs.moves.adopt_children.Given as goal

-- the children up to i have their parent
abbrev pub invariant-loop-i : goal.invariant-loop-i
invariant-loop-i l =
    forest_in l.nodes.items ≡
    set_parents (has_child (take (l.i - l.start) (drop l.start (children_of (forest_in l.initial.nodes.items) l.parent.index)))) (Some l.parent.index) (forest_in l.initial.nodes.items)
