use Rattle.std.proofs.Common.{◌∙◌, ◌<◌, ap, arith, length}
use Rattle.std.specs.Prelude.{◌==◌, Some}
use Rattle.std.proofs.Math.ListN.{set}
use Rattle.std.proofs.lemmas.List.{length-set}
use Rattle.h5_interface.specs.Changes.{insert_before, set_parents}
use Rattle.h5_interface.specs.Forest.{ChildNode}
use Rattle.h5_arena.specs.ArenaModel.{node_view}
use Rattle.h5_arena.proofs.ChildViews.{on_err}
use Rattle.h5_arena.proofs.NodeWrites.{children_write, once_at, parent_within, parent_write, parted_at, same_write}
use Rattle.h5_arena.proofs.links.insert_node_below.Goals as goal

pub index_mut-node-requires : goal.index_mut-node-requires
index_mut-node-requires c =
    let there = parent_within c.args.nodes.now.items c.args.parent.index c.args.sibling.index c.requires.forest c.requires.parent in omega (arith, there)

pub place_of-at-requires : goal.place_of-at-requires
place_of-at-requires c =
    let one = once_at c.args.nodes.now.items c.args.parent.index c.args.sibling.index c.index_mut-node.result.now c.requires.forest c.requires.parent c.requires.no_fragment c.index_mut-node.ensures.value in
    rw c.as_slice.ensures.value (omega (arith, one))

pub insert_node-requires-clause-parted : goal.insert_node-requires-clause-parted
insert_node-requires-clause-parted c =
    parted_at _ _ c.index_mut-node.result.now (parent_within c.args.nodes.now.items c.args.parent.index c.args.sibling.index c.requires.forest c.requires.parent) c.index_mut-node.ensures.value c.requires.forest

pub to-placed-requires : goal.to-placed-requires
to-placed-requires c =
    let there = parent_within c.args.nodes.now.items c.args.parent.index c.args.sibling.index c.requires.forest c.requires.parent in omega (arith, there)

pub returns-in_err-insert_node-clause-err : goal.returns-in_err-insert_node-clause-err
returns-in_err-insert_node-clause-err c =
    on_err _ (same_write _ _ c.index_mut-node.result.now _ c.index_mut-node.ensures.value
    (ap (λ cs. record (node_view c.index_mut-node.result.now) { children = cs }) c.in_err-insert_node.ensures.err))

pub returns-clause-ok : goal.returns-clause-ok
returns-clause-ok c =
    let there = parent_within c.args.nodes.now.items c.args.parent.index c.args.sibling.index c.requires.forest c.requires.parent in
    let one = once_at c.args.nodes.now.items c.args.parent.index c.args.sibling.index c.index_mut-node.result.now c.requires.forest c.requires.parent c.requires.no_fragment c.index_mut-node.ensures.value in
    let found = (rw c.as_slice.ensures.value at c.place_of-at.ensures.found) in
    let there_id : c.args.id.index < length (set c.args.nodes.now.items c.args.parent.index (record c.index_mut-node.result.now { children = c.insert_node.new.children })) = simp length-set (omega arith) in
    parent_write _ _ c.index_mut-placed.result.now _ (Some c.args.parent.index) there_id c.index_mut-placed.ensures.value
    (ap (λ p. record (node_view c.index_mut-placed.result.now) { parent = p }) c.to-placed.ensures)
    ∙ ap (set_parents (λ n. n == c.args.id.index) (Some c.args.parent.index)) (children_write _ _ c.index_mut-node.result.now _ (insert_before c.args.sibling.index (ChildNode c.args.id.index)) there c.index_mut-node.ensures.value
    (ap (λ cs. record (node_view c.index_mut-node.result.now) { children = cs }) (c.in_ok-insert_node.ensures.ok c.args.sibling.index found one)))
