use Rattle.std.proofs.Common.{ap, arith, string_bytes}
use Rattle.h5_interface.specs.Changes.{insert_before}
use Rattle.h5_interface.specs.Forest.{ChildText}
use Rattle.h5_arena.specs.ArenaModel.{node_view}
use Rattle.h5_arena.proofs.ChildViews.{on_err}
use Rattle.h5_arena.proofs.NodeWrites.{children_write, once_at, parent_within, parted_at, same_write}
use Rattle.h5_arena.proofs.links.insert_text_below.Goals as goal

pub index_mut-node-requires : goal.index_mut-node-requires
index_mut-node-requires c =
    let there = parent_within c.args.nodes.now.items c.args.parent.index c.args.sibling.index c.requires.forest c.requires.parent in omega (arith, there)

pub place_of-at-requires : goal.place_of-at-requires
place_of-at-requires c =
    let one = once_at c.args.nodes.now.items c.args.parent.index c.args.sibling.index c.index_mut-node.result.now c.requires.forest c.requires.parent c.requires.no_fragment c.index_mut-node.ensures.value in
    rw c.as_slice.ensures.value (omega (arith, one))

pub insert_text-requires-clause-parted : goal.insert_text-requires-clause-parted
insert_text-requires-clause-parted c =
    parted_at _ _ c.index_mut-node.result.now (parent_within c.args.nodes.now.items c.args.parent.index c.args.sibling.index c.requires.forest c.requires.parent) c.index_mut-node.ensures.value c.requires.forest

pub returns-in_err-insert_text-clause-err : goal.returns-in_err-insert_text-clause-err
returns-in_err-insert_text-clause-err c =
    on_err _ (same_write _ _ c.index_mut-node.result.now _ c.index_mut-node.ensures.value
    (ap (λ cs. record (node_view c.index_mut-node.result.now) { children = cs }) c.in_err-insert_text.ensures.err))

pub returns-clause-ok : goal.returns-clause-ok
returns-clause-ok c =
    let there = parent_within c.args.nodes.now.items c.args.parent.index c.args.sibling.index c.requires.forest c.requires.parent in
    let one = once_at c.args.nodes.now.items c.args.parent.index c.args.sibling.index c.index_mut-node.result.now c.requires.forest c.requires.parent c.requires.no_fragment c.index_mut-node.ensures.value in
    let found = (rw c.as_slice.ensures.value at c.place_of-at.ensures.found) in
    children_write _ _ c.index_mut-node.result.now _ (insert_before c.args.sibling.index (ChildText (string_bytes c.args.text))) there c.index_mut-node.ensures.value
    (ap (λ cs. record (node_view c.index_mut-node.result.now) { children = cs }) (c.in_ok-insert_text.ensures.ok c.args.sibling.index found one))
