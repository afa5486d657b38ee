use Rattle.std.proofs.Common.{◌≡◌, drop}
use Rattle.h5_names.specs.AttributeText.{attribute_texts}
use Rattle.h5_tree_block.specs.SameTree.{are_same_rows}
use Rattle.h5_tree_block.proofs.view.View.are_rows.Given as goal

-- all are the rows if those that are left are the rows from here on
abbrev pub invariant-loop-attribute : goal.invariant-loop-attribute
invariant-loop-attribute l =
    (are_same_rows l.self.block.now l.node l.index (attribute_texts (drop l.attribute-index l.attrs)) ≡ are_same_rows l.self.block.now l.node 0 (attribute_texts l.attrs))
