use Rattle.std.proofs.Common.{◌≡◌, ◌+◌, ◌++◌, drop}
use Rattle.std.specs.Prelude.{vec_len}
use Rattle.h5_interface.specs.Forest.{nodes}
use Rattle.h5_arena.specs.ArenaModel.{child_views, children_in, link_place}
use Rattle.h5_arena.specs.Copies.{renumbered, wanted_below, wanted_views}
use Rattle.h5_arena.proofs.copies.copy_children.Given as goal

abbrev pub invariant-loop-child : goal.invariant-loop-child
invariant-loop-child l =
    (child_views (children_in l.copies) ++ renumbered (l.count + vec_len l.sources) (child_views (drop l.child-index l.children))
    ≡ renumbered (l.count + vec_len l.initial.sources) (child_views l.children))
    × (wanted_views l.sources.items ++ wanted_below (link_place l.parent) (nodes (child_views (drop l.child-index l.children)))
    ≡ wanted_views l.initial.sources.items ++ wanted_below (link_place l.parent) (nodes (child_views l.children)))
