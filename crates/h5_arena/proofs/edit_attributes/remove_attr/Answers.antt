use Rattle.std.proofs.Common.{◌<◌, ◌∙◌, ap, arith, length}
use Rattle.h5_names.specs.AttributeText.{attribute_texts}
use Rattle.h5_arena.specs.ArenaModel.{node_view}
use Rattle.h5_arena.specs.Edits.{without_named}
use Rattle.h5_arena.proofs.EditLaws.{value_there}
use Rattle.h5_arena.proofs.NodeWrites.{attrs_edited_write, node_at}
use Rattle.h5_arena.proofs.edit_attributes.remove_attr.Goals as goal

pub returns-clause-changed : goal.returns-clause-changed
returns-clause-changed c =
    let there : c.args.id.index < length c.args.nodes.now.items = omega arith in
    attrs_edited_write _ _ c.index_mut-node.result.now _ (without_named c.args.name.now) there c.index_mut-node.ensures.value
    (ap (λ xs. record (node_view c.index_mut-node.result.now) { attrs = xs }) c.remove_named.ensures.changed)

pub returns-clause-had : goal.returns-clause-had
returns-clause-had c =
    let there : c.args.id.index < length c.args.nodes.now.items = omega arith in
    rw (node_at c.args.nodes.now.items c.args.id.index c.index_mut-node.result.now there c.index_mut-node.ensures.value)
    (c.remove_named.ensures.had ∙ value_there c.args.name.now (attribute_texts c.index_mut-node.result.now.attrs.items))
