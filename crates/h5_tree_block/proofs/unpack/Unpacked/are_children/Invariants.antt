use Rattle.std.proofs.Common.{◌≡◌, drop}
use Rattle.h5_arena.specs.ArenaModel.{child_views}
use Rattle.h5_tree_block.specs.SameTree.{are_same_children}
use Rattle.h5_tree_block.proofs.unpack.Unpacked.are_children.Given as goal

-- all are the same if those that are left are, from here on
abbrev pub invariant-loop-child : goal.invariant-loop-child
invariant-loop-child l =
    (are_same_children l.view.block.now l.self l.number (child_views (drop l.child-index l.children)) ≡ are_same_children l.view.block.now l.self l.first (child_views l.children))
