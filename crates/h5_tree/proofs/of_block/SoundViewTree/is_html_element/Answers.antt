use Rattle.std.proofs.Common.{◌∙◌}
use Rattle.h5_tree.proofs.ReadLaws.{html_read}
use Rattle.h5_tree.proofs.of_block.SoundViewTree.is_html_element.Goals as goal

pub returns : goal.returns
returns c = c.is_html_element.ensures ∙ html_read c.args.self.now.view.block.now c.args.id
