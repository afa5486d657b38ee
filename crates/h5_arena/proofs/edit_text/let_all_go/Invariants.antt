use Rattle.std.proofs.Common.{◌≡◌, take}
use Rattle.std.specs.Prelude.{None}
use Rattle.h5_interface.specs.Changes.{has_child, set_parents}
use Rattle.h5_arena.specs.ArenaModel.{child_views, forest_in}
use Rattle.h5_arena.proofs.edit_text.let_all_go.Given as goal

-- the children so far have no parent
abbrev pub invariant-loop-child : goal.invariant-loop-child
invariant-loop-child l = forest_in l.nodes.items ≡ set_parents (has_child (take l.child-index (child_views l.children))) None (forest_in l.initial.nodes.items)
