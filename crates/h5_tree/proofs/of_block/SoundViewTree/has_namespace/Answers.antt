use Rattle.std.proofs.Common.{◌∙◌}
use Rattle.h5_tree.proofs.ReadLaws.{namespace_read}
use Rattle.h5_tree.proofs.of_block.SoundViewTree.has_namespace.Goals as goal

pub returns : goal.returns
returns c = c.has_namespace.ensures ∙ namespace_read c.args.self.now.view.block.now c.args.ns.now c.args.id
