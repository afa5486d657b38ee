use Rattle.std.proofs.Common.{◌≡◌, ◌∙◌, true, false, sym}
use Rattle.std.proofs.lemmas.Bool.{eq-eqb, eqb-true}
use Rattle.h5_tree_block.specs.Block.{kind_in}
use Rattle.h5_tree.proofs.AttributeLaws.{attributes_none}
use Rattle.h5_tree.proofs.of_block.SoundViewTree.attr_in_namespace.Goals as goal

pub find_row-requires : goal.find_row-requires
find_row-requires c = eqb-true (kind_in c.args.self.now.view.block.now c.args.id) 1 (sym c.is_element.ensures ∙ c.if-is_element.true)

pub returns-then-is_element : goal.returns-then-is_element
returns-then-is_element c = c.find_row.ensures

pub returns-else-is_element : goal.returns-else-is_element
returns-else-is_element c =
    let b = c.args.self.now.view.block.now in
    sym (attributes_none b c.args.id c.args.ns.now c.args.local.now (λ e. let w : true ≡ false = sym (eq-eqb (kind_in b c.args.id) 1 e) ∙ sym c.is_element.ensures ∙ c.if-is_element.false in cc))
