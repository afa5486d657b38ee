use Rattle.std.proofs.Common.{◌∙◌, ◌<◌, arith}
use Rattle.std.proofs.lemmas.List.{map-id}
use Rattle.std.proofs.lemmas.Result.{IfOk-weaker}
use Rattle.h5_tree_block.specs.Block.{nodes_in}
use Rattle.h5_tree.proofs.ReadLaws.{below_law}
use Rattle.h5_tree.proofs.of_block.SoundViewTree.descendant_elements.Goals as goal

pub returns : goal.returns
returns c =
    let t = c.args.self.now in
    let lt : c.args.id < nodes_in t.view.block.now = omega (arith, c.node_count.ensures, c.if-id-node_count.false) in
    let law = below_law t.view.block.now t.sound t.small c.args.id c.end.result lt c.end.ensures.end in
    IfOk-weaker c.elements_between.result _ _ (λ found is. map-id found.items ∙ is ∙ law.1) (c.elements_between.ensures law.0)
