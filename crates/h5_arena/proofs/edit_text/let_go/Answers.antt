use Rattle.std.proofs.Common.{◌<◌, ◌∙◌, ap, arith, length, refl}
use Rattle.std.specs.Prelude.{◌==◌, None}
use Rattle.h5_arena.specs.ArenaModel.{child_view, forest_in, node_view}
use Rattle.h5_arena.specs.ChildTests.{is_this}
use Rattle.h5_arena.proofs.MoveLaws.{set_parents_same}
use Rattle.h5_arena.proofs.NodeWrites.{parent_write}
use Rattle.h5_arena.proofs.edit_text.let_go.Goals as goal

pub index_mut-node-requires : goal.index_mut-node-requires
index_mut-node-requires c = c.requires c.in-Node.id.index (ap child_view c.in-Node.is)

pub returns-in-Node : goal.returns-in-Node
returns-in-Node c =
    let held = c.requires c.in-Node.id.index (ap child_view c.in-Node.is) in
    let there : c.in-Node.id.index < length c.args.nodes.now.items = omega (arith, held) in
    parent_write c.args.nodes.now.items c.in-Node.id.index c.index_mut-node.result.now _ None there c.index_mut-node.ensures.value
    (ap (λ p. record (node_view c.index_mut-node.result.now) { parent = p }) c.none-node.ensures)
    ∙ set_parents_same (λ n. n == c.in-Node.id.index) (λ n. is_this n (child_view c.args.child.now)) None (forest_in c.args.nodes.now.items) (λ n. rw c.in-Node.is refl)
