use Rattle.std.proofs.Common.{◌≡◌, ◌++◌, drop, map}
use Rattle.h5_arena.specs.ArenaModel.{forest_seen, place}
use Rattle.h5_tree.specs.Elements.{elements}
use Rattle.h5_tree.proofs.of_arena.elements.Given as goal

abbrev pub invariant-loop-node : goal.invariant-loop-node
invariant-loop-node l =
    map place l.found.items ++ elements (forest_seen l.arena) (map place (drop l.node-index l.nodes)) ≡ elements (forest_seen l.arena) (map place l.nodes)
