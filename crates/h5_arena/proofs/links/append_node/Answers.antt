use Rattle.std.proofs.Common.{◌∙◌, ◌<◌, ◌++◌, ◌∷◌, [], ap, arith, length, refl}
use Rattle.std.specs.Prelude.{◌==◌, Some}
use Rattle.std.proofs.Math.ListN.{set}
use Rattle.std.proofs.lemmas.List.{length-set}
use Rattle.h5_interface.specs.Changes.{set_parents}
use Rattle.h5_interface.specs.Forest.{ChildNode}
use Rattle.h5_arena.specs.ArenaModel.{child_views, node_view}
use Rattle.h5_arena.proofs.ChildViews.{on_err, pushed_node}
use Rattle.h5_arena.proofs.NodeWrites.{children_write, parent_write, parted_at, same_write}
use Rattle.h5_arena.proofs.links.append_node.Goals as goal

pub returns-in_err-add_child-clause-err : goal.returns-in_err-add_child-clause-err
returns-in_err-add_child-clause-err c =
    on_err _ (same_write _ _ c.index_mut-node.result.now _ c.index_mut-node.ensures.value
    (ap (λ cs. record (node_view c.index_mut-node.result.now) { children = child_views cs }) c.in_err-add_child.ensures.err))

pub returns-clause-ok : goal.returns-clause-ok
returns-clause-ok c =
    let there : c.args.parent.index < length c.args.nodes.now.items = omega arith in
    let there_id : c.args.id.index < length (set c.args.nodes.now.items c.args.parent.index (record c.index_mut-node.result.now { children = c.add_child.new.children })) = simp length-set (omega arith) in
    parent_write _ _ c.index_mut-moved.result.now _ (Some c.args.parent.index) there_id c.index_mut-moved.ensures.value
    (ap (λ p. record (node_view c.index_mut-moved.result.now) { parent = p }) c.to-moved.ensures)
    ∙ ap (set_parents (λ n. n == c.args.id.index) (Some c.args.parent.index)) (children_write _ _ c.index_mut-node.result.now _ (λ cs. cs ++ ChildNode c.args.id.index ∷ []) there c.index_mut-node.ensures.value
    (ap (λ cs. record (node_view c.index_mut-node.result.now) { children = cs })
    (ap child_views c.in_ok-add_child.ensures.ok ∙ pushed_node _ _ _ refl (parted_at _ _ c.index_mut-node.result.now there c.index_mut-node.ensures.value c.requires.forest))))
