use Rattle.std.proofs.Common.{◌∙◌}
use Rattle.std.proofs.lemmas.List.{map-id}
use Rattle.std.proofs.lemmas.Result.{IfOk-weaker}
use Rattle.h5_tree.proofs.ReadLaws.{children_law}
use Rattle.h5_tree.proofs.of_block.SoundViewTree.child_elements.Goals as goal

pub returns : goal.returns
returns c =
    let t = c.args.self.now in
    let law = children_law t.view.block.now t.sound t.small c.args.id c.first_child.result c.first_child.ensures.child in
    IfOk-weaker c.elements_from.result _ _ (λ found is. map-id found.items ∙ is ∙ law.1) (c.elements_from.ensures c.args.id law.0)
