use Rattle.h5_tree.proofs.ShapeLaws.{block_is_shaped}
use Rattle.h5_tree.proofs.SoundOrder.{sound_in_order}
use Rattle.h5_tree.proofs.of_block.SoundViewTree.node_count.Goals as goal

pub returns-clause-shape : goal.returns-clause-shape
returns-clause-shape c = block_is_shaped c.args.self.now.view.block.now (sound_in_order c.args.self.now.view.block.now c.args.self.now.sound c.args.self.now.small)
