use Rattle.std.proofs.Common.{◌∙◌, ◌<◌, ap, arith, length}
use Rattle.std.specs.Prelude.{◌==◌, None}
use Rattle.std.proofs.Math.ListN.{set}
use Rattle.std.proofs.lemmas.List.{length-set}
use Rattle.h5_interface.specs.Changes.{set_parents, without}
use Rattle.h5_arena.specs.ArenaModel.{node_view}
use Rattle.h5_arena.proofs.ChildViews.{on_err}
use Rattle.h5_arena.proofs.NodeWrites.{child_within, children_write, once_at, parent_within, parent_write, parted_at, same_write}
use Rattle.h5_arena.proofs.links.detach_from.Goals as goal

pub index_mut-node-requires : goal.index_mut-node-requires
index_mut-node-requires c =
    let there = parent_within c.args.nodes.now.items c.args.parent.index c.args.id.index c.requires.forest c.requires.parent in omega (arith, there)

pub remove_node-requires-clause-once : goal.remove_node-requires-clause-once
remove_node-requires-clause-once c = once_at c.args.nodes.now.items c.args.parent.index c.args.id.index c.index_mut-node.result.now c.requires.forest c.requires.parent c.requires.no_fragment c.index_mut-node.ensures.value

pub remove_node-requires-clause-parted : goal.remove_node-requires-clause-parted
remove_node-requires-clause-parted c =
    parted_at _ _ c.index_mut-node.result.now (parent_within c.args.nodes.now.items c.args.parent.index c.args.id.index c.requires.forest c.requires.parent) c.index_mut-node.ensures.value c.requires.forest

pub returns-in_err-remove_node-clause-err : goal.returns-in_err-remove_node-clause-err
returns-in_err-remove_node-clause-err c =
    on_err _ (same_write _ _ c.index_mut-node.result.now _ c.index_mut-node.ensures.value
    (ap (λ cs. record (node_view c.index_mut-node.result.now) { children = cs }) c.in_err-remove_node.ensures.err))

pub returns-clause-ok : goal.returns-clause-ok
returns-clause-ok c =
    let there = parent_within c.args.nodes.now.items c.args.parent.index c.args.id.index c.requires.forest c.requires.parent in
    let there_id : c.args.id.index < length (set c.args.nodes.now.items c.args.parent.index (record c.index_mut-node.result.now { children = c.remove_node.new.children })) =
    simp length-set (child_within c.args.nodes.now.items c.args.parent.index c.args.id.index c.requires.parent) in
    parent_write _ _ c.index_mut-moved.result.now _ None there_id c.index_mut-moved.ensures.value
    (ap (λ p. record (node_view c.index_mut-moved.result.now) { parent = p }) c.none-moved.ensures)
    ∙ ap (set_parents (λ n. n == c.args.id.index) None) (children_write _ _ c.index_mut-node.result.now _ (without c.args.id.index) there c.index_mut-node.ensures.value
    (ap (λ cs. record (node_view c.index_mut-node.result.now) { children = cs }) c.in_ok-remove_node.ensures.ok))
