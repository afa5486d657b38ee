use Rattle.std.proofs.Common.{◌<◌, ap, arith, length}
use Rattle.h5_names.specs.AttributeText.{attribute_texts}
use Rattle.h5_arena.specs.ArenaModel.{node_view}
use Rattle.h5_arena.specs.Edits.{with_value}
use Rattle.h5_arena.proofs.ChildViews.{on_err}
use Rattle.h5_arena.proofs.NodeWrites.{attrs_edited_write, same_write}
use Rattle.h5_arena.proofs.edit_attributes.set_attr.Goals as goal

pub returns-in_err-set_value-clause-err : goal.returns-in_err-set_value-clause-err
returns-in_err-set_value-clause-err c =
    on_err _ (same_write _ _ c.index_mut-node.result.now _ c.index_mut-node.ensures.value
    (ap (λ xs. record (node_view c.index_mut-node.result.now) { attrs = attribute_texts xs }) c.in_err-set_value.ensures.err))

pub returns-clause-ok : goal.returns-clause-ok
returns-clause-ok c =
    let there : c.args.id.index < length c.args.nodes.now.items = omega arith in
    attrs_edited_write _ _ c.index_mut-node.result.now _ (with_value c.args.name.now c.args.value.now) there c.index_mut-node.ensures.value
    (ap (λ xs. record (node_view c.index_mut-node.result.now) { attrs = xs }) c.in_ok-set_value.ensures.ok)
