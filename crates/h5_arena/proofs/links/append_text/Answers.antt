use Rattle.std.proofs.Common.{◌<◌, ◌++◌, ◌∷◌, [], ap, arith, length, string_bytes}
use Rattle.h5_interface.specs.Forest.{ChildText}
use Rattle.h5_arena.specs.ArenaModel.{node_view}
use Rattle.h5_arena.proofs.ChildViews.{on_err}
use Rattle.h5_arena.proofs.NodeWrites.{children_write, parted_at, same_write}
use Rattle.h5_arena.proofs.links.append_text.Goals as goal

pub push_text-requires : goal.push_text-requires
push_text-requires c =
    let there : c.args.parent.index < length c.args.nodes.now.items = omega arith in
    parted_at _ _ c.index_mut-node.result.now there c.index_mut-node.ensures.value c.requires.forest

pub returns-in_err-push_text-clause-err : goal.returns-in_err-push_text-clause-err
returns-in_err-push_text-clause-err c =
    on_err _ (same_write _ _ c.index_mut-node.result.now _ c.index_mut-node.ensures.value
    (ap (λ cs. record (node_view c.index_mut-node.result.now) { children = cs }) c.in_err-push_text.ensures.err))

pub returns-clause-ok : goal.returns-clause-ok
returns-clause-ok c =
    let there : c.args.parent.index < length c.args.nodes.now.items = omega arith in
    children_write _ _ c.index_mut-node.result.now _ (λ cs. cs ++ ChildText (string_bytes c.args.text) ∷ []) there c.index_mut-node.ensures.value
    (ap (λ cs. record (node_view c.index_mut-node.result.now) { children = cs }) c.in_ok-push_text.ensures.ok)
