use Rattle.std.proofs.Common.{◌∙◌, rules}
use Rattle.h5_tree_block.proofs.SameLaws.{nowhere, there}
use Rattle.h5_tree_block.proofs.unpack.Unpacked.is_node.Goals as goal

pub returns-then-not-holds : goal.returns-then-not-holds
returns-then-not-holds c = nowhere c.args.view.now.block.now c.args.self.now c.args.number c.args.id.index (search rules)

pub returns : goal.returns
returns c =
    c.are_parts.ensures
    ∙ there c.args.view.now.block.now c.args.self.now c.args.number c.args.id.index _ _ _ _ c.kind.ensures c.attrs.ensures c.contents.ensures.contents c.children.ensures.children
