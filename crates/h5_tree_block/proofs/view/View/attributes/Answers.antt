use Rattle.h5_tree_block.proofs.ReadingLaws.{attribute_put}
use Rattle.h5_tree_block.proofs.view.View.attributes.Goals as goal

pub loop-index-preserved : goal.loop-index-preserved
loop-index-preserved c =
    attribute_put c.args.self.now.block.now c.args.node c.loop-index.index c.loop-index.attrs.items c.push.new.self.items c.in_ok-attribute.field-0 c.in_ok-push.ensures.items c.in_ok-attribute.ensures c.loop-index.invariant
