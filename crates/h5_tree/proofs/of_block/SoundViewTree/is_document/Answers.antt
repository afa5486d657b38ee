use Rattle.std.proofs.Common.{◌∙◌, ap}
use Rattle.std.specs.Prelude.{◌==◌}
use Rattle.h5_tree.proofs.ReadLaws.{document_read}
use Rattle.h5_tree.proofs.of_block.SoundViewTree.is_document.Goals as goal

pub returns : goal.returns
returns c = ap (λ k. k == 9) c.kind.ensures ∙ document_read c.args.self.now.view.block.now c.args.id
