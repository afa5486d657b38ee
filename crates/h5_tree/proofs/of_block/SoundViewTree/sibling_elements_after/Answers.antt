use Rattle.std.proofs.Common.{◌∙◌, sym}
use Rattle.std.proofs.lemmas.List.{map-id}
use Rattle.std.proofs.lemmas.Result.{IfOk-weaker}
use Rattle.h5_tree.proofs.ReadLaws.{behind_law, behind_none_law}
use Rattle.h5_tree.proofs.of_block.SoundViewTree.sibling_elements_after.Goals as goal

pub returns-in-Some : goal.returns-in-Some
returns-in-Some c =
    let t = c.args.self.now in
    let law = behind_law t.view.block.now t.sound t.small c.args.id c.in-Some.field-0 c.next.result c.in-Some.ensures c.next.ensures.sibling in
    IfOk-weaker c.elements_from.result _ _ (λ found is. map-id found.items ∙ is ∙ law.1) (c.elements_from.ensures c.in-Some.field-0 law.0)

pub returns-in-None : goal.returns-in-None
returns-in-None c = map-id c.new.result.items ∙ c.new.ensures.items ∙ sym (behind_none_law c.args.self.now.view.block.now c.args.self.now.sound c.args.self.now.small c.args.id c.in-None.ensures)
