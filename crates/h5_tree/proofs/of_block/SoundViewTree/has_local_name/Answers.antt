use Rattle.std.proofs.Common.{◌∙◌}
use Rattle.h5_tree.proofs.ReadLaws.{local_read}
use Rattle.h5_tree.proofs.of_block.SoundViewTree.has_local_name.Goals as goal

pub returns : goal.returns
returns c = c.has_local_name.ensures ∙ local_read c.args.self.now.view.block.now c.args.local.now c.args.id
