use Rattle.std.proofs.Common.{◌≡◌, ◌∙◌, ap, sym}
use Rattle.std.specs.Prelude.{None}
use Rattle.h5_interface.specs.Forest.{parent_of}
use Rattle.h5_arena.specs.ArenaModel.{forest_of, optional_place}
use Rattle.h5_arena.proofs.NodeWrites.{node_at, node_exists}
use Rattle.h5_arena.proofs.sink.ArenaTreeSink.append_based_on_parent_node.Goals as goal

pub append-requires : goal.append-requires
append-requires c =
    let there = node_exists c.self.inside.nodes.items c.args.element.now.index (rw (← c.self.view_is) at c.requires.element_is_node) in
    let here = node_at c.self.inside.nodes.items c.args.element.now.index c.index.result.now there c.index.ensures in
    let none : parent_of (forest_of c.args.self.now.nodes) c.args.element.now.index ≡ None = rw (← c.self.view_is, here) (sym c.node.ensures ∙ ap optional_place c.in-None.is) in
    (rw none at c.requires.child)
