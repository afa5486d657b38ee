use Rattle.std.proofs.Common.{◌∙◌}
use Rattle.h5_tree.proofs.ReadLaws.{empty_law}
use Rattle.h5_tree.proofs.of_block.SoundViewTree.is_empty.Goals as goal

pub returns : goal.returns
returns c =
    let t = c.args.self.now in
    let law = empty_law t.view.block.now t.sound t.small c.args.id c.first_child.result c.first_child.ensures.child in
    c.is_bare_from.ensures c.args.id law.0 ∙ law.1
