use Rattle.std.proofs.Common.{◌∙◌, sym}
use Rattle.std.proofs.lemmas.List.{map-id}
use Rattle.std.proofs.lemmas.Result.{IfOk-weaker}
use Rattle.h5_tree.proofs.ReadLaws.{before_law, before_none_law}
use Rattle.h5_tree.proofs.of_block.SoundViewTree.sibling_elements_before.Goals as goal

pub returns-in-Some : goal.returns-in-Some
returns-in-Some c =
    let t = c.args.self.now in
    let law = before_law t.view.block.now t.sound t.small c.args.id c.in-Some.parent c.first_child.result c.in-Some.ensures c.first_child.ensures.child in
    IfOk-weaker c.elements_up_to.result _ _ (λ found is. map-id found.items ∙ is ∙ law.3) (c.elements_up_to.ensures law.0 law.1 law.2)

pub returns-in-None : goal.returns-in-None
returns-in-None c = map-id c.new.result.items ∙ c.new.ensures.items ∙ sym (before_none_law c.args.self.now.view.block.now c.args.self.now.sound c.args.self.now.small c.args.id c.in-None.ensures)
