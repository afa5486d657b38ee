use Rattle.std.proofs.Common.{◌≡◌}
use Rattle.h5_names.specs.AttributeText.{attribute_texts}
use Rattle.h5_tree_block.specs.Read.{attributes_below}
use Rattle.h5_tree_block.proofs.view.View.attributes.Given as goal

abbrev pub invariant-loop-index : goal.invariant-loop-index
invariant-loop-index l = attribute_texts l.attrs.items ≡ attributes_below l.self.block.now l.node l.index
