use Rattle.std.proofs.Common.{◌∙◌, sym}
use Rattle.h5_tree.proofs.NodeLaws.{element_is}
use Rattle.h5_tree.proofs.of_block.SoundViewTree.is_element.Goals as goal

pub returns : goal.returns
returns c = c.is_element.ensures ∙ sym (element_is c.args.self.now.view.block.now c.args.id)
