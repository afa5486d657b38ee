use Rattle.h5_tree.proofs.ReadLaws.{parent_law}
use Rattle.h5_tree.proofs.of_block.SoundViewTree.parent.Goals as goal

pub returns : goal.returns
returns c = parent_law c.args.self.now.view.block.now c.args.self.now.sound c.args.self.now.small c.args.id c.parent_of.result c.parent_of.ensures
