use Rattle.std.proofs.Common.{drop, length}
use Rattle.h5_arena.specs.ArenaModel.{forest_in, node_views}
use Rattle.h5_arena.specs.Copies.{AreCopied, wanted_views}
use Rattle.h5_arena.proofs.CopySizes.{left}
use Rattle.h5_arena.proofs.copies.copies.Given as goal

-- the first of the sources are copied
abbrev pub invariant-queue : goal.invariant-queue
invariant-queue l = AreCopied (forest_in l.nodes) l.fn.id.index (wanted_views l.sources.items) (node_views l.copies.items)

abbrev pub decreases-queue : goal.decreases-queue
decreases-queue l = left (forest_in l.nodes) (drop (length (node_views l.copies.items)) (wanted_views l.sources.items))
