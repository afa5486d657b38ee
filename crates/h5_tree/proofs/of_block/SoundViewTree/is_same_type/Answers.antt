use Rattle.std.proofs.Common.{◌∙◌}
use Rattle.h5_tree.proofs.ReadLaws.{alike_read}
use Rattle.h5_tree.proofs.of_block.SoundViewTree.is_same_type.Goals as goal

pub returns : goal.returns
returns c = c.is_same_type.ensures ∙ alike_read c.args.self.now.view.block.now c.args.one c.args.other
