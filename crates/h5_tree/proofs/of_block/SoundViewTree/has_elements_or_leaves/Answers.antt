use Rattle.h5_tree.proofs.LeafLaws.{children_are_elements_or_leaves}
use Rattle.h5_tree.proofs.SoundOrder.{sound_in_order}
use Rattle.h5_tree.proofs.of_block.SoundViewTree.has_elements_or_leaves.Goals as goal

pub returns : goal.returns
returns c = λ e. children_are_elements_or_leaves c.args.self.now.view.block.now (sound_in_order c.args.self.now.view.block.now c.args.self.now.sound c.args.self.now.small) c.args._id
